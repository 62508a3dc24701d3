use Rattle.std.proofs.Common.{◌≡◌, ◌<◌, ℕ, List, length, get_or, arith, inl, inr}
use Rattle.std.proofs.lemmas.List.{take_more, take_all}
use Rattle.std.proofs.lemmas.List.Elements.{Contains-get_or, Contains-push_cases}
use Rattle.tf_graph.proofs.Edges.{edge-from_source, source-from_edge}
use Rattle.tf_graph.specs.Path.{HasEdge}
use Rattle.tf_plan_order.proofs.Spreading.{further-then}
use Rattle.tf_plan_order.proofs.late.visit.Goals as goal

pub loop-needed-preserved : goal.loop-needed-preserved
loop-needed-preserved c =
    let a = c.args in
    let l = c.loop-needed in
    let items : List ℕ = c.predecessors-needed-items.result.now in
    let next : ℕ = get_or items l.needed-index 0 in
    let inside : l.needed-index < length items = omega arith in
    let edge : HasEdge a.graph.now next a.resource =
    edge-from_source a.graph.now.edges a.resource next (rw (← c.predecessors-needed-items.ensures.nodes) (Contains-get_or items l.needed-index 0 inside)) in
    let further = c.in_ok-find.ensures.further in
    record {
      further = further-then _ _ _ _ _ _ (λ n. HasEdge a.graph.now n a.resource) (λ n. n ≡ next) l.invariant.further further (λ n same. rw same edge);
      found = λ n h. elim (Contains-push_cases _ next n (rw (take_more items l.needed-index 0 inside) at h)) [
        | inl old ↦ further.kept n (l.invariant.found n old)
        | inr here ↦ rw (← here) c.in_ok-find.ensures.found
      ];
      smaller = omega (arith, c.in_ok-find.ensures.smaller, l.invariant.smaller);
    }

pub returns-clause-found : goal.returns-clause-found
returns-clause-found c =
    let l = c.loop-needed in
    let items : List ℕ = c.predecessors-needed-items.result.now in
    λ n e. l.invariant.found n (rw (take_all l.needed-index items (omega arith), c.predecessors-needed-items.ensures.nodes) (source-from_edge c.args.graph.now.edges c.args.resource n e))
