use Rattle.std.proofs.Common.{◌≡◌, ◌∙◌, Bool, true, false, not, refl, sym, ap}
use mathlib.Core.Bool.{beq}
use Rattle.std.specs.List.{list_all}
use Rattle.tf_graph.specs.Digraph.{predecessors_of}
use Rattle.tf_graph.specs.Solutions.{seen_by}
use Rattle.tf_walk_action.specs.ResultViews.{action_results_of}
use Rattle.tf_walk_action.specs.Outcome.{all_good, done_at, is_good}
use Rattle.tf_walk_single.proofs.Seen.{all_good-seen}
use Rattle.tf_walk.proofs.fitting.fits.Goals as goal

-- one of two that differ is what the other isn't
differ : (a b : Bool) → not (beq a b) ≡ true → a ≡ not b
differ true true e = absurd (cc)
differ true false e = refl
differ false true e = refl
differ false false e = absurd (cc)

pub returns : goal.returns
returns c = λ different.
    let results = done_at (action_results_of c.args.results.now) in
    let before = predecessors_of c.args.order.now c.args.action in
    let good : c.are_good.result ≡ all_good (seen_by results before) =
    c.are_good.ensures ∙ (ap (list_all (λ n. is_good (results n))) c.predecessors.ensures.nodes ∙ sym (all_good-seen results before)) in
    sym c.is_skipped_at.ensures ∙ (differ c.is_skipped_at.result c.are_good.result different ∙ ap not good)
