use Rattle.std.proofs.Common.{◌≡◌, Bool, ◌&&◌, refl, sym, ◌∙◌}
use Rattle.std.proofs.lemmas.Bool.{eq-eqb, ne_eqb}
use Rattle.std.proofs.lemmas.Bool.Decides.{Decides-at}
use Rattle.std.specs.Cmp.Derive.Mapped.{pointwise-map}
use Rattle.std.specs.Prelude.{◌==◌, bytes_eq}
use Rattle.tf_state_data.specs.Equality.{same_resource, state_Decides}
use Rattle.tf_state_data.specs.Resource.{resource_of}
use Rattle.tf_state_data.specs.State.{StateView, state_of}
use Rattle.tf_state_data.proofs.Equal.{passed, failed, outputs_equal}
use Rattle.tf_state_data.proofs.state.StatePartialEq.eq.Goals as goal
use Rattle.tf_state_data.proofs.state.StatePartialEq.eq.Goals.{then-self-other, else-self-other, then-eq, else-eq, then-eq-2, else-eq-2, Joined-eq-2}
use Rattle.tf_value_data.specs.Tree.{same_entries}

-- the first two parts, three and four are the same
abbrev two : StateView → StateView → Bool
two s t = (s.serial == t.serial) && bytes_eq s.lineage t.lineage

abbrev three : StateView → StateView → Bool
three s t = two s t && bytes_eq s.terraform_version t.terraform_version

abbrev four : StateView → StateView → Bool
four s t = three s t && same_entries s.outputs t.outputs

-- whether the first four parts are the same, part by part
same_four : (c : Joined-eq-2) → c.if-eq-2.value ≡ four (state_of c.args.self.now) (state_of c.args.other.now)
same_four c =
    let s = state_of c.args.self.now in
    let t = state_of c.args.other.now in
    let named : c.if-self-other.value ≡ two s t =
    elim c.if-self-other.branch [ then-self-other w ↦ passed refl (eq-eqb _ _ w.if-self-other.true) (w.value-is ∙ w.eq.ensures) | else-self-other w ↦ failed _ refl (ne_eqb _ _ w.if-self-other.false) w.value-is ] in
    let versioned : c.if-eq.value ≡ three s t =
    elim c.if-eq.branch [ then-eq w ↦ passed named w.if-eq.true (w.value-is ∙ w.eq-then-eq.ensures) | else-eq w ↦ failed _ named w.if-eq.false w.value-is ] in
    elim c.if-eq-2.branch [
      | then-eq-2 w ↦ passed versioned w.if-eq-2.true (w.value-is ∙ (w.eq-then-eq-2.ensures ∙ outputs_equal c.args.self.now.outputs.entries c.args.other.now.outputs.entries))
      | else-eq-2 w ↦ failed _ versioned w.if-eq-2.false w.value-is
    ]

-- where they are, the resources decide
pub returns-then-eq-3-clause-value : goal.returns-then-eq-3-clause-value
returns-then-eq-3-clause-value c =
    passed (same_four (goal.at.returns-then-eq-3-clause-value c).Joined-eq-2) c.if-eq-3.true (c.eq-then-eq-3.ensures ∙ sym (pointwise-map resource_of same_resource c.args.self.now.resources.items c.args.other.now.resources.items))

pub returns-then-eq-3-clause-exact : goal.returns-then-eq-3-clause-exact
returns-then-eq-3-clause-exact c = Decides-at _ _ (returns-then-eq-3-clause-value c) (state_Decides (state_of c.args.self.now) (state_of c.args.other.now))

-- where one of them differs, the states do
pub returns-else-eq-3-clause-value : goal.returns-else-eq-3-clause-value
returns-else-eq-3-clause-value c = failed _ (same_four (goal.at.returns-else-eq-3-clause-value c).Joined-eq-2) c.if-eq-3.false refl

pub returns-else-eq-3-clause-exact : goal.returns-else-eq-3-clause-exact
returns-else-eq-3-clause-exact c = Decides-at _ _ (returns-else-eq-3-clause-value c) (state_Decides (state_of c.args.self.now) (state_of c.args.other.now))
