-- the declared ones of those that were gone through are kept
use Rattle.tf_walk_outputs.proofs.Kept.{KeptBefore}
use Rattle.tf_state_data.specs.State.{outputs_of}
use Rattle.tf_expr_syntax.specs.ExprTree.{entries_view}
use Rattle.tf_walk_outputs.proofs.keeping.kept_outputs.Given as goal

abbrev pub invariant-loop-name : goal.invariant-loop-name
invariant-loop-name l = KeptBefore (entries_view l.outputs.entries) l.prior.entries l.name-iterator (outputs_of l.kept.entries)
