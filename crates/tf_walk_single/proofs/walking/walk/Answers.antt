use Rattle.std.proofs.Common.{◌≡◌, ◌<◌, ℕ, true, length, Some, map, option_map, set, ap, sym, ◌∙◌, arith}
use Rattle.std.proofs.lemmas.List.{length-map}
use Rattle.std.proofs.Math.ListN.{length-set}
use Rattle.tf_value_data.proofs.Conjunction.{and-first}
use Rattle.tf_claim.specs.Ledger.{Ledger, is_free, stage_in, moved}
use Rattle.tf_claim.specs.declared.book.Stage.TheVariants as stage
use Rattle.tf_graph.specs.Digraph.{Digraph}
use Rattle.tf_plan_data.specs.Action.{action_of}
use Rattle.tf_plan_data.specs.Plan.{plan_of}
use Rattle.tf_walk_action.specs.ResultViews.{action_result_of}
use Rattle.tf_walk_single.proofs.Memos.{memo-more}
use Rattle.tf_walk_single.proofs.SoFar.{so_far-more, staged-more, claimable_is, all_ended}
use Rattle.tf_walk_single.proofs.Stages.{taken_there, fewer_free, map-set}
use Rattle.tf_walk_single.proofs.walking.walk.Goals as goal

pub loop-permit-init : goal.loop-permit-init
loop-permit-init g c =
    record {
      so_far = c.requires.so_far;
      staged = c.requires.staged;
      book = c.requires.book;
      graph = c.requires.graph;
      memo = rw c.new-memo.ensures tt;
    }

pub end_action-ended-requires-clause-before : goal.end_action-ended-requires-clause-before
end_action-ended-requires-clause-before g c =
    let p = c.in-Some.permit in
    let claimed = c.in-Some.ensures.claimed in
    let old = c.loop-permit.book in
    let ends = map (option_map action_result_of) c.loop-permit.results in
    let parts = claimable_is old ends p c.loop-permit.invariant.staged claimed.1 in
    rw c.loop-permit.invariant.book at parts.1

pub close-requires : goal.close-requires
close-requires g c =
    let p = c.in-Some.permit in
    let claimed = c.in-Some.ensures.claimed in
    let old = c.loop-permit.book in
    let sized : length old.stages ≡ old.graph.nodes = sym (length-set old.stages p stage.Taken) ∙ (rw claimed.2 at c.in-Some.ensures.kept).sized in
    let within : p < length old.stages = rw sized claimed.0 in
    rw (claimed.2, c.end_action-ended.ensures.finished) (taken_there old.stages p within)

pub loop-permit-smaller : goal.loop-permit-smaller
loop-permit-smaller g c =
    let p = c.in-Some.permit in
    let claimed = c.in-Some.ensures.claimed in
    let old = c.loop-permit.book in
    let sized : length old.stages ≡ old.graph.nodes = sym (length-set old.stages p stage.Taken) ∙ (rw claimed.2 at c.in-Some.ensures.kept).sized in
    let within : p < length old.stages = rw sized claimed.0 in
    let free : is_free (stage_in old.stages p) ≡ true = and-first (is_free (stage_in old.stages p)) _ claimed.1 in
    rw (c.close.ensures, claimed.2, c.end_action-ended.ensures.finished) (fewer_free old.stages p within free)

pub loop-permit-preserved : goal.loop-permit-preserved
loop-permit-preserved g c =
    let p = c.in-Some.permit in
    let claimed = c.in-Some.ensures.claimed in
    let old = c.loop-permit.book in
    let ms = map (λ b. (goal.Provider-dyn g (b.vtable, b.value)).meaning b.value) c.args.providers.now in
    let results = c.loop-permit.results in
    let ends = map (option_map action_result_of) results in
    let d = action_result_of c.end_action-ended.result.0 in
    let sized : length old.stages ≡ old.graph.nodes = sym (length-set old.stages p stage.Taken) ∙ (rw claimed.2 at c.in-Some.ensures.kept).sized in
    let within : p < length old.stages = rw sized claimed.0 in
    let counted = length-map c.args.plan.now.actions.items action_of in
    let nodes : old.graph.nodes ≡ c.args.plan.now.order.nodes = ap (λ (gr : Digraph). gr.nodes) c.loop-permit.invariant.book in
    let inside : p < length ends = omega (arith, c.loop-permit.invariant.so_far.sized, counted, nodes, c.args.plan.now.counted, c.args.plan.now.actions.ok.0, claimed.0) in
    let parts = claimable_is old ends p c.loop-permit.invariant.staged claimed.1 in
    let before = rw c.loop-permit.invariant.book at parts.1 in
    let written : map (option_map action_result_of) c.keep.new.results ≡ set ends p (Some d) =
    ap (map (option_map action_result_of)) (c.keep.ensures ∙ ap (λ (k : ℕ). set results k (Some c.end_action-ended.result.0)) c.action-action.ensures) ∙ map-set (option_map action_result_of) results p (Some c.end_action-ended.result.0) in
    let more = so_far-more ms (plan_of c.args.plan.now) ends c.loop-permit.journal.entries c.end_action-ended.new.journal.entries p d c.loop-permit.invariant.so_far inside parts.0 before c.end_action-ended.ensures.ended c.end_action-ended.ensures.entered in
    let book : c.close.new.book ≡ moved (moved old p stage.Taken) p stage.Done =
    c.close.ensures ∙ (ap (λ (l : Ledger). moved l c.end_action-ended.result.1 stage.Done) claimed.2 ∙ ap (λ (k : ℕ). moved (moved old p stage.Taken) k stage.Done) c.end_action-ended.ensures.finished) in
    record {
      so_far = rw written more;
      staged = rw (written, book) (staged-more old.stages ends p d inside within c.loop-permit.invariant.staged);
      book = ap (λ (l : Ledger). l.graph) book ∙ c.loop-permit.invariant.book;
      graph = c.end_action-ended.ensures.same_graph ∙ c.loop-permit.invariant.graph;
      memo = rw written (memo-more (plan_of c.args.plan.now) ends c.end_action-ended.new.memo p d inside parts.0 c.end_action-ended.ensures.memo);
    }

pub returns-clause-all : goal.returns-clause-all
returns-clause-all g c =
    let ends = map (option_map action_result_of) c.loop-permit.results in
    let order = c.graph-order.ensures.order in
    let counted = length-map c.args.plan.now.actions.items action_of in
    let count : c.args.plan.now.order.nodes ≡ length (map action_of c.args.plan.now.actions.items) = omega (arith, counted, c.args.plan.now.counted, c.args.plan.now.actions.ok.0) in
    all_ended c.loop-permit.book (plan_of c.args.plan.now) ends order.ranked order.below count c.loop-permit.invariant.book c.loop-permit.invariant.staged c.in_default.ensures.claimed.1
