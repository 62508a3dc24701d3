-- A table of dependence, from its graph, order and closure.
use Rattle.std.proofs.Common.{◌≡◌, ◌∙◌, ◌<◌, ℕ, List, length, take, sym, subst}
use Rattle.std.proofs.lemmas.Bool.{both_ways}
use Rattle.std.specs.List.{AllByRecursion}
use Rattle.std.specs.Prelude.{Contains, slice_index}
use Rattle.tf_config_data.specs.Names.{NameView, meant_at, place_of, refers_at, directly_before}
use Rattle.tf_graph.proofs.Edges.{edge-from_target, target-from_edge}
use Rattle.tf_graph.proofs.GraphLaws.{acyclic-ranked, closure-least, reached-closed, whole_order-all}
use Rattle.tf_graph.specs.Closure.{reaches, IsClosure}
use Rattle.tf_graph.specs.Digraph.{IsWithin, predecessors_of, successors_of}
use Rattle.tf_graph.specs.Path.{direct}
use Rattle.tf_graph.specs.Strip.{IsWholeOrder}
use Rattle.tf_config_names.proofs.Edging.{AreWithin, are-within, places-below}
use Rattle.tf_config_names.proofs.Needing.{reaching-named, reaches-from_needs, needs-from_reaches, edge-from_before, before-from_edge, filled_some, some_filled}
use Rattle.tf_config_names.specs.Needs.{IsDependence}
use Rattle.tf_config_names.specs.Places.{found_in}
use Rattle.tf_expr_syntax.specs.TemplateNames.{Pair}
use Rattle.tf_config_names.specs.declared.dependence.Dependence.{Dependence}

pub dependence : (names : List NameView) (d : Dependence) → ((pair : Pair) → found_in d.places pair ≡ place_of names pair) → d.graph.nodes ≡ length names → AreWithin (length names) d.graph.edges → ((n : ℕ) → predecessors_of d.graph n ≡ directly_before names n)
    → IsWholeOrder d.graph d.order.items → IsClosure d.graph d.table → IsDependence names d
dependence names d placed count are before order closure =
    let g = d.graph in
    let within = subst (λ k. IsWithin k d.graph.edges) (sym count) (are-within (length names) d.graph.edges are) in
    record {
      places = placed;
      count = count;
      table = closure.nodes ∙ count;
      before = before;
      needed = λ p q a b h i. (λ led. needs-from_reaches names g before b a (closure.led b a led) p q h i, λ n. closure.found b a (reaches-from_needs names g before p q a b h i n));
      named = λ a b led. reaching-named names g before b a (closure.led b a led);
      direct = λ a b c. closure.found b a (direct b a (edge-from_before names g before a b c));
      transitive = λ a b c p q. (closure-least g d.table closure).0.transitive c b a q p;
      closed = λ a b c led k. (reached-closed g d.table closure c b a).1 (edge-from_before names g before b c k) led;
      referred = λ b. (
        λ filled. let target = filled_some (successors_of g b) filled in (target.0, before-from_edge names g before target.0 b (edge-from_target g.edges b target.0 target.1)),
        λ held. some_filled (successors_of g b) held.0 (target-from_edge g.edges b held.0 (edge-from_before names g before held.0 b held.1)),
      );
      in_order = record {
        once = order.in_order.once;
        after = λ i h. subst (AllByRecursion (λ a. Contains (take i d.order.items) a)) (before (slice_index d.order.items i)) (order.in_order.after i h);
      };
      within = λ n c. subst (λ k. n < k) count (order.within n c);
      whole = λ none n h. whole_order-all g d.order.items within (λ k path. both_ways (reaches d.table k k) (none k) (closure.found k k path)) order n (subst (λ k. n < k) (sym count) h);
      ranked = λ none.
          let r = acyclic-ranked g d.table within closure none in
          (r.0, λ n. subst (AllByRecursion (λ a. r.0 a < r.0 n)) (before n) (r.1 n));
      stays = λ n h. places-below names (refers_at (meant_at names n));
    }
