use Rattle.std.proofs.Common.{◌+◌, vec_len}
use Rattle.tf_graph.specs.Search.{IsSearch, IsWide, missing}
use Rattle.tf_graph.proofs.closure.reached_from.Given as goal

abbrev pub invariant-loop-next : goal.invariant-loop-next
invariant-loop-next l = record {
  wide : IsWide l.told.graph.now.nodes l.search.row l.search.settled;
  search : IsSearch l.told.graph.now l.node l.search.row l.search.settled l.search.pending.items;
}

abbrev pub decreases-loop-next : goal.decreases-loop-next
decreases-loop-next l = missing l.search.row l.told.graph.now.nodes + vec_len l.search.pending
