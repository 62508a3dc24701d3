use Rattle.std.proofs.Common.{◌≡◌, ◌∙◌, ℕ, ◌++◌, length, map, take, drop, None, option_map, replicate, sym, ap, subst, arith}
use Rattle.std.proofs.lemmas.List.{length-map}
use Rattle.std.specs.List.{AllByRecursion}
use Rattle.tf_graph.specs.Digraph.{Digraph, predecessors_of}
use Rattle.tf_graph.specs.Order.{IsInOrder}
use Rattle.tf_provider.specs.Entries.{Log, actions_of}
use Rattle.tf_plan_data.specs.Action.{action_of}
use Rattle.tf_plan_data.specs.Plan.{plan_of}
use Rattle.tf_walk_action.specs.ResultViews.{action_result_of, result_or_skipped, action_results_of}
use Rattle.tf_walk_action.specs.Journal.{IsOfAction, verdict_in}
use Rattle.tf_walk_action.specs.Outcome.{done_at, op_of}
use Rattle.tf_walk_report.specs.ActionReport.{AreJudged}
use Rattle.tf_walk_single.specs.Ends.{done_in}
use Rattle.tf_walk_action.proofs.AskedRight.{some_requests}
use Rattle.tf_walk.proofs.Carried.{left_by_walk}
use Rattle.tf_walk.proofs.Reported.{is_report-told, so_far-asked, so_far-entered, so_far-judged, so_far-none, so_far-solves, staged-none}
use Rattle.tf_walk_single.proofs.Seen.{dones-are}
use Rattle.tf_walk.proofs.single.carry_out.Goals as goal

pub walk-requires-clause-so_far : goal.walk-requires-clause-so_far
walk-requires-clause-so_far g c =
    let ms = map (λ b. (goal.Provider-dyn g (b.vtable, b.value)).meaning b.value) c.args.providers.now in
    let count = c.args.plan.now.order.nodes in
    let start : c.deref_mut.result.now ≡ replicate count None = c.deref_mut.ensures.value ∙ c.requires.prepared.results in
    let sized : count ≡ length (map action_of c.args.plan.now.actions.items) = omega (arith, c.args.plan.now.counted, c.args.plan.now.actions.ok.0, length-map c.args.plan.now.actions.items action_of) in
    rw (start, c.requires.prepared.none) (so_far-none ms (plan_of c.args.plan.now) count sized)

pub walk-requires-clause-staged : goal.walk-requires-clause-staged
walk-requires-clause-staged g c =
    let count = c.args.plan.now.order.nodes in
    let start : c.deref_mut.result.now ≡ replicate count None = c.deref_mut.ensures.value ∙ c.requires.prepared.results in
    rw (start, c.requires.prepared.free) (staged-none count count)

pub report_of-requires-clause-sized : goal.report_of-requires-clause-sized
report_of-requires-clause-sized g c =
    let new = c.walk.new.results in
    let actions = map action_of c.args.plan.now.actions.items in
    let counted : length actions ≡ c.args.plan.now.order.nodes = omega (arith, length-map c.args.plan.now.actions.items action_of, c.args.plan.now.counted, c.args.plan.now.actions.ok.0) in
    let left = left_by_walk new c.args.prepared.results.items c.args.prepared.results.len c.args.plan.now.order.nodes actions c.walk.ensures.so_far.sized counted c.requires.prepared.results (omega (arith, c.args.prepared.results.ok.0)) in
    ap length left.0 ∙ (left.1 ∙ (sym counted ∙ length-map c.args.plan.now.actions.items action_of))

pub report_of-requires-clause-judged : goal.report_of-requires-clause-judged
report_of-requires-clause-judged g c =
    let ms = map (λ b. (goal.Provider-dyn g (b.vtable, b.value)).meaning b.value) c.args.providers.now in
    let plan = plan_of c.args.plan.now in
    let new = c.walk.new.results in
    let left = left_by_walk new c.args.prepared.results.items c.args.prepared.results.len c.args.plan.now.order.nodes (map action_of c.args.plan.now.actions.items) c.walk.ensures.so_far.sized (omega (arith, length-map c.args.plan.now.actions.items action_of, c.args.plan.now.counted, c.args.plan.now.actions.ok.0)) c.requires.prepared.results (omega (arith, c.args.prepared.results.ok.0)) in
    let asked = some_requests plan (c.requires.fits.dependence.ranked c.requires.fits.acyclic) in
    let judged = so_far-judged ms asked.0 plan (map (option_map action_result_of) new) c.walk.new.journal.entries (action_results_of new) c.walk.ensures.so_far asked.1 (dones-are new) in
    subst (λ rs. AreJudged ms (map (λ a. op_of a.step) (map action_of c.args.plan.now.actions.items)) (action_results_of rs)) (sym left.0) judged

pub returns-clause-whole : goal.returns-clause-whole
returns-clause-whole g c =
    let ms = map (λ b. (goal.Provider-dyn g (b.vtable, b.value)).meaning b.value) c.args.providers.now in
    let plan = plan_of c.args.plan.now in
    let new = c.walk.new.results in
    let left = left_by_walk new c.args.prepared.results.items c.args.prepared.results.len c.args.plan.now.order.nodes (map action_of c.args.plan.now.actions.items) c.walk.ensures.so_far.sized (omega (arith, length-map c.args.plan.now.actions.items action_of, c.args.plan.now.counted, c.args.plan.now.actions.ok.0)) c.requires.prepared.results (omega (arith, c.args.prepared.results.ok.0)) in
    let back : take c.args.prepared.results.len (new ++ drop (length new) c.args.prepared.results.items) ≡ new = left.0 in
    let ends = map (option_map action_result_of) new in
    let entries = c.walk.new.journal.entries in
    let done = action_results_of (take c.args.prepared.results.len (new ++ drop (length new) c.args.prepared.results.items)) in
    let same : (n : ℕ) → done_at done n ≡ done_in ends n = λ n. ap (λ rs. done_at (action_results_of rs) n) back ∙ dones-are new n in
    let lengths : length done ≡ length ends = ap (λ rs. length (action_results_of rs)) back ∙ (length-map new result_or_skipped ∙ sym (length-map new (option_map action_result_of))) in
    let report = c.report_of.result in
    let told = c.report_of.ensures.told in
    let written : report.journal.entries ≡ entries = ap (λ (l : Log). l.entries) c.report_of.ensures.journal in
    let allowed : IsInOrder (predecessors_of c.args.plan.now.order) (actions_of entries) =
    subst (λ (d : Digraph). IsInOrder (predecessors_of d) (actions_of entries)) c.walk.ensures.graph c.entries-entries.ensures.allowed in
    let asked = some_requests plan (c.requires.fits.dependence.ranked c.requires.fits.acyclic) in
    let is_report =
    is_report-told ms asked.0 plan done told.0 report (so_far-solves ms asked.0 plan ends entries done report.excused.items c.walk.ensures.so_far asked.1 c.walk.ensures.all lengths same)
    (so_far-asked ms asked.0 plan ends entries done c.walk.ensures.so_far asked.1 same) told.1 in
    record {
      reported = record { requests = asked.0; are_requests = asked.1; done = done; outputs = told.0; is_report = is_report };
      journal =
          record {
            in_order = subst (λ es. IsInOrder (predecessors_of c.args.plan.now.order) (actions_of es)) (sym written) allowed;
            verdicts = λ n. ap (λ es. verdict_in es n) written ∙ so_far-entered ms plan ends entries done c.walk.ensures.so_far same n;
            ops = subst (λ es. AllByRecursion (IsOfAction plan.actions) es) (sym written) c.walk.ensures.so_far.ops;
          };
    }

pub returns-clause-journal : goal.returns-clause-journal
returns-clause-journal g c = ap (λ (l : Log). l.graph) c.report_of.ensures.journal ∙ c.walk.ensures.graph
