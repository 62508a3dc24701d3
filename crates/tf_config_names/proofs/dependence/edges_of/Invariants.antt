use Rattle.tf_config_names.proofs.Edging.{AreEdges}
use Rattle.tf_config_names.specs.Table.{names_in}
use Rattle.tf_config_names.proofs.dependence.edges_of.Given as goal

abbrev pub invariant-loop-place : goal.invariant-loop-place
invariant-loop-place l = AreEdges (names_in l.names) l.place l.edges.items
