use Rattle.std.proofs.Common.{◌≡◌, map}
use Rattle.tf_value_data.specs.Tree.{tree_of}
use Rattle.tf_expr_operators.specs.Found.{found_tree}
use Rattle.tf_expr_operators.proofs.found.all_owned.Given as goal

-- what was gone through is owned
abbrev pub invariant-loop-one : goal.invariant-loop-one
invariant-loop-one l = map tree_of l.values.items ≡ map found_tree l.yielded
