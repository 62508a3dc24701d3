use Rattle.tf_graph.specs.NodeSet.{has}
use Rattle.tf_config_names.specs.Table.{names_in}
use Rattle.tf_walk_outputs.proofs.Solved.{AreMarked}
use Rattle.tf_walk_outputs.proofs.settled.settle_in.Given as goal

abbrev pub invariant-loop-place : goal.invariant-loop-place
invariant-loop-place l = AreMarked (names_in l.declared.names.now) (has l.good) l.order l.place-index l.settled
