use Rattle.std.proofs.Common.{◌≡◌, Bool, ◌&&◌, refl, ◌∙◌}
use Rattle.std.proofs.lemmas.Bool.Decides.{Decides-at}
use Rattle.std.specs.Cmp.Lexicographic.{pointwise}
use Rattle.std.specs.Prelude.{◌==◌, bytes_eq}
use Rattle.tf_config_address.specs.Same.{same_object_id}
use Rattle.tf_state_data.specs.Equality.{record_Decides}
use Rattle.tf_state_data.specs.Record.{RecordView, record_of}
use Rattle.tf_config_address.proofs.EqualIds.{object_ids_equal}
use Rattle.tf_state_data.proofs.Equal.{passed, failed, dependencies_equal}
use Rattle.tf_state_data.proofs.record.RecordPartialEq.eq.Goals as goal
use Rattle.tf_state_data.proofs.record.RecordPartialEq.eq.Goals.{then-eq, else-eq, then-eq-2, else-eq-2, then-self-other, else-self-other, then-self-other-2, else-self-other-2, Joined-self-other-2}
use Rattle.tf_value_data.specs.Tree.{same}
use mathlib.Core.Bool.{beq}

-- the first two parts, three, four and five are the same
abbrev two : RecordView → RecordView → Bool
two r s = same_object_id r.id s.id && same r.attributes s.attributes

abbrev three : RecordView → RecordView → Bool
three r s = two r s && (r.schema_version == s.schema_version)

abbrev four : RecordView → RecordView → Bool
four r s = three r s && beq r.tainted s.tainted

abbrev five : RecordView → RecordView → Bool
five r s = four r s && pointwise bytes_eq r.dependencies s.dependencies

-- whether the first five parts are the same, part by part
same_five : (c : Joined-self-other-2) → c.if-self-other-2.value ≡ five (record_of c.args.self.now) (record_of c.args.other.now)
same_five c =
    let r = record_of c.args.self.now in
    let s = record_of c.args.other.now in
    let there = c.eq.ensures ∙ object_ids_equal c.args.self.now.id c.args.other.now.id in
    let known : c.if-eq.value ≡ two r s =
    elim c.if-eq.branch [ then-eq w ↦ passed there w.if-eq.true (w.value-is ∙ w.eq-then-eq.ensures.value) | else-eq w ↦ failed _ there w.if-eq.false w.value-is ] in
    let followed : c.if-eq-2.value ≡ three r s =
    elim c.if-eq-2.branch [ then-eq-2 w ↦ passed known w.if-eq-2.true w.value-is | else-eq-2 w ↦ failed _ known w.if-eq-2.false w.value-is ] in
    let tainted : c.if-self-other.value ≡ four r s =
    elim c.if-self-other.branch [ then-self-other w ↦ passed followed w.if-self-other.true w.value-is | else-self-other w ↦ failed _ followed w.if-self-other.false w.value-is ] in
    elim c.if-self-other-2.branch [
      | then-self-other-2 w ↦ passed tainted w.if-self-other-2.true (w.value-is ∙ (w.eq-then-self-other-2.ensures ∙ dependencies_equal c.args.self.now.dependencies.keys c.args.other.now.dependencies.keys))
      | else-self-other-2 w ↦ failed _ tainted w.if-self-other-2.false w.value-is
    ]

-- where they are, the sixth decides
pub returns-then-eq-3-clause-value : goal.returns-then-eq-3-clause-value
returns-then-eq-3-clause-value c = passed (same_five (goal.at.returns-then-eq-3-clause-value c).Joined-self-other-2) c.if-eq-3.true refl

pub returns-then-eq-3-clause-exact : goal.returns-then-eq-3-clause-exact
returns-then-eq-3-clause-exact c = Decides-at _ _ (returns-then-eq-3-clause-value c) (record_Decides (record_of c.args.self.now) (record_of c.args.other.now))

-- where one of them differs, the records do
pub returns-else-eq-3-clause-value : goal.returns-else-eq-3-clause-value
returns-else-eq-3-clause-value c = failed _ (same_five (goal.at.returns-else-eq-3-clause-value c).Joined-self-other-2) c.if-eq-3.false refl

pub returns-else-eq-3-clause-exact : goal.returns-else-eq-3-clause-exact
returns-else-eq-3-clause-exact c = Decides-at _ _ (returns-else-eq-3-clause-value c) (record_Decides (record_of c.args.self.now) (record_of c.args.other.now))
