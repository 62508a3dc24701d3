use Rattle.std.proofs.Common.{◌≡◌, ◌++◌, take}
use Rattle.tf_config_names.specs.Edges.{edges_into}
use Rattle.tf_config_names.proofs.dependence.add_edges.Given as goal

abbrev pub invariant-loop-source : goal.invariant-loop-source
invariant-loop-source l = l.edges.items ≡ l.fn.edges.items ++ edges_into l.target (take l.source-index l.sources)
