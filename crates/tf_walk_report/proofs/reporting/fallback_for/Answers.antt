use Rattle.std.proofs.Common.{ap, ◌∙◌}
use Rattle.tf_value_data.proofs.WithNulls.{nulls-known}
use Rattle.tf_value_data.specs.Known.{known}
use Rattle.tf_value_data.specs.Tree.{tree_of}
use Rattle.tf_walk_report.proofs.reporting.fallback_for.Goals as goal

pub invariant_of-result : goal.invariant_of-result
invariant_of-result c = record { known = ap known c.with_nulls.ensures ∙ nulls-known (tree_of c.in-Create-Some.value) }
