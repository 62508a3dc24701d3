use Rattle.std.proofs.Common.{◌≡◌, ◌↔◌, ◌∙◌, Bool, true, IsTrue, ap, sym, subst}
use Rattle.tf_value_data.proofs.Storing.{within-true}
use Rattle.tf_value_data.proofs.WithNulls.{nulls-known, nulls-stored}
use Rattle.tf_value_data.specs.Known.{known}
use Rattle.tf_value_data.specs.Measure.{IsWithinLimits}
use Rattle.tf_value_data.specs.Sets.{has_no_set}
use Rattle.tf_value_data.specs.Stored.{MayBeStored, may_be_planned}
use Rattle.tf_value_data.specs.Tree.{Tree, tree_of}
use Rattle.tf_walk_outputs.proofs.ending.within_limits.Goals as goal

planned : (t : Tree) (b : Bool) → b ≡ true → (IsTrue b ↔ IsWithinLimits t) → has_no_set t ≡ true → may_be_planned t ≡ true
planned t b is within no_set = rw (within-true t (within.0 is), no_set)

pub returns-clause-stored : goal.returns-clause-stored
returns-clause-stored c =
    let t = tree_of c.args.value in
    subst MayBeStored (sym c.with_nulls.ensures)
    (nulls-stored t c.is_within_limits.ensures.held c.is_within_limits.ensures.sorted (planned t c.is_within_limits.result c.if-not-is_within_limits.false c.is_within_limits.ensures.exact c.requires))

pub invariant_of-result : goal.invariant_of-result
invariant_of-result c = record { known = ap known c.with_nulls.ensures ∙ nulls-known (tree_of c.args.value) }
