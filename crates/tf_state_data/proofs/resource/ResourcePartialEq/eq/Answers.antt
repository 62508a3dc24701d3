use Rattle.std.proofs.Common.{◌≡◌, ◌&&◌, sym, ◌∙◌}
use Rattle.std.proofs.lemmas.Bool.Decides.{Decides-at}
use Rattle.std.specs.Prelude.{bytes_eq}
use Rattle.std.specs.Cmp.Derive.Mapped.{pointwise-map}
use Rattle.tf_config_address.specs.ResourceAddr.{addr_of}
use Rattle.tf_config_address.specs.Same.{same_addr}
use Rattle.tf_state_data.specs.Equality.{same_record, resource_Decides}
use Rattle.tf_state_data.specs.Record.{record_of}
use Rattle.tf_state_data.specs.Resource.{resource_of}
use Rattle.tf_state_data.proofs.Equal.{passed, failed}
use Rattle.tf_state_data.proofs.resource.ResourcePartialEq.eq.Goals as goal
use Rattle.tf_state_data.proofs.resource.ResourcePartialEq.eq.Goals.{then-eq, else-eq}

-- the address and the provider are compared before the records
pub returns-then-eq-2-clause-value : goal.returns-then-eq-2-clause-value
returns-then-eq-2-clause-value c =
    let r = c.args.self.now in
    let s = c.args.other.now in
    let provided : c.if-eq.value ≡ (same_addr (addr_of r.addr) (addr_of s.addr) && bytes_eq (resource_of r).provider (resource_of s).provider) =
    elim c.if-eq.branch [ then-eq w ↦ passed c.eq.ensures w.if-eq.true (w.value-is ∙ w.eq-then-eq.ensures) | else-eq w ↦ failed _ c.eq.ensures w.if-eq.false w.value-is ] in
    passed provided c.if-eq-2.true (c.eq-then-eq-2.ensures ∙ sym (pointwise-map record_of same_record r.records.items s.records.items))

pub returns-then-eq-2-clause-exact : goal.returns-then-eq-2-clause-exact
returns-then-eq-2-clause-exact c =
    Decides-at _ _ (returns-then-eq-2-clause-value c) (resource_Decides (resource_of c.args.self.now) (resource_of c.args.other.now))
