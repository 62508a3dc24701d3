use Rattle.std.proofs.Common.{◌≡◌, ◌≤◌, ◌+◌, ◌++◌, ◌∷◌, [], ℕ, true, take, vec_len}
use Rattle.std.specs.Prelude.{Contains}
use Rattle.tf_graph.specs.NodeSet.{has}
use Rattle.tf_graph.specs.Search.{IsSearch, IsWide, missing}
use Rattle.tf_graph.proofs.closure.visit.Given as goal

abbrev pub invariant-loop-next : goal.invariant-loop-next
invariant-loop-next l = record {
  wide : IsWide l.told.graph.now.nodes l.search.row l.search.settled;
  search : (start : ℕ)
      → IsSearch l.told.graph.now start l.initial.search.row l.initial.search.settled (l.initial.search.pending.items ++ l.node ∷ [])
      → IsSearch l.told.graph.now start l.search.row l.search.settled (l.search.pending.items ++ l.node ∷ []);
  kept : (k : ℕ) → has l.initial.search.row k ≡ true → has l.search.row k ≡ true;
  found : (start : ℕ)
      → IsSearch l.told.graph.now start l.initial.search.row l.initial.search.settled (l.initial.search.pending.items ++ l.node ∷ [])
      → (t : ℕ) → Contains (take l.next-index l.next-items) t → has l.search.row t ≡ true;
  smaller : missing l.search.row l.told.graph.now.nodes + vec_len l.search.pending ≤ missing l.initial.search.row l.told.graph.now.nodes + vec_len l.initial.search.pending;
}
