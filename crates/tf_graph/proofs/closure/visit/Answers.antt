use Rattle.std.proofs.Common.{◌<◌, ◌∷◌, [], ℕ, List, length, get_or, arith, inl, inr}
use Rattle.std.proofs.lemmas.List.{take_more, take_all}
use Rattle.std.proofs.lemmas.List.Elements.{Contains-get_or, Contains-push_cases}
use Rattle.tf_graph.specs.Path.{HasEdge}
use Rattle.tf_graph.proofs.Edges.{edge-from_target, target-from_edge}
use Rattle.tf_graph.proofs.Searches.{reached-next, pending-less}
use Rattle.tf_graph.proofs.closure.visit.Goals as goal

pub loop-next-preserved : goal.loop-next-preserved
loop-next-preserved c =
    let graph = c.args.told.now.graph.now in
    let node = c.args.node in
    let l = c.loop-next in
    let items : List ℕ = c.successors-next-items.result.now in
    let next : ℕ = get_or items l.next-index 0 in
    let inside : l.next-index < length items = omega arith in
    let edge : HasEdge graph node next =
    edge-from_target graph.edges node next (rw (← c.successors-next-items.ensures.nodes) (Contains-get_or items l.next-index 0 inside)) in
    record {
      wide = c.in_ok-reach.ensures.wide;
      search = λ start s.
          (c.in_ok-reach.ensures.search start (node ∷ []) (reached-next graph start node next _ _ _ (l.invariant.search start s) edge) (l.invariant.search start s)).0;
      kept = λ k h. c.in_ok-reach.ensures.kept k (l.invariant.kept k h);
      found = λ start s t h. elim (Contains-push_cases _ next t (rw (take_more items l.next-index 0 inside) at h)) [
        | inl old ↦ c.in_ok-reach.ensures.kept t (l.invariant.found start s t old)
        | inr here ↦ rw (← here) ((c.in_ok-reach.ensures.search start (node ∷ []) (reached-next graph start node next _ _ _ (l.invariant.search start s) edge) (l.invariant.search start s)).1)
      ];
      smaller = omega (arith, c.in_ok-reach.ensures.smaller, l.invariant.smaller);
    }

pub returns-clause-search : goal.returns-clause-search
returns-clause-search c =
    let graph = c.args.told.now.graph.now in
    let l = c.loop-next in
    let items : List ℕ = c.successors-next-items.result.now in
    λ start s.
    pending-less graph start c.args.node l.search.row l.search.settled l.search.pending.items
    (inr (λ t e. l.invariant.found start s t (rw (take_all l.next-index items (omega arith), c.successors-next-items.ensures.nodes) (target-from_edge graph.edges c.args.node t e))))
    (l.invariant.search start s)
