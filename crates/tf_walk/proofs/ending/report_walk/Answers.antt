use Rattle.std.proofs.Common.{◌≡◌, ◌∙◌, ◌++◌, ℕ, length, map, take, drop, sym, ap, subst, arith}
use Rattle.std.proofs.lemmas.List.{length-map}
use Rattle.std.specs.List.{AllByRecursion}
use Rattle.tf_graph.specs.Digraph.{Digraph, predecessors_of}
use Rattle.tf_graph.specs.Order.{IsInOrder}
use Rattle.tf_plan_data.specs.Action.{action_of}
use Rattle.tf_plan_data.specs.Plan.{PlanView, plan_of}
use Rattle.tf_provider.specs.Entries.{Log, actions_of}
use Rattle.tf_walk_action.proofs.AskedRight.{some_requests}
use Rattle.tf_walk_action.specs.Journal.{IsOfAction, entered_verdict, verdict_in}
use Rattle.tf_walk_action.specs.Outcome.{done_at}
use Rattle.tf_walk_action.specs.ResultViews.{action_results_of}
use Rattle.tf_walk_workers.proofs.Outcomes.{true_outcomes}
use Rattle.tf_walk_workers.proofs.Wholeness.{verdicts}
use Rattle.tf_walk.proofs.Carried.{taken-back}
use Rattle.tf_walk.proofs.Judging.{fit-asked, fit-judged}
use Rattle.tf_walk.proofs.Reported.{is_report-told}
use Rattle.tf_walk.proofs.Taking.{fit-lent}
use Rattle.tf_walk.proofs.Wholeness.{reported_is_kept}
use Rattle.tf_walk.proofs.ending.report_walk.Goals as goal

pub report_of-requires-clause-judged : goal.report_of-requires-clause-judged
report_of-requires-clause-judged g c =
    let ms = map (λ b. (goal.Provider-dyn g (b.vtable, b.value)).meaning b.value) c.args.providers.now in
    let plan = plan_of c.args.plan.now in
    let fit = fit-lent g.N.WalkBrand.meanings ms g.N.WalkBrand.plan plan c.graph.result.now c.take_out.new.results c.args.results.items c.args.results.len c.deref.result.now c.requires.meanings c.requires.plan c.graph.ensures.graph (omega (arith, length-map c.args.plan.now.actions.items action_of, c.args.plan.now.counted, c.args.plan.now.actions.ok.0)) (c.take_out.ensures.length ∙ c.requires.cells) c.requires.results (omega (arith, c.args.results.ok.0)) c.deref.ensures.value c.take_out.ensures.fits c.demand_fit.ensures in
    let asked = some_requests plan (c.requires.fits.dependence.ranked c.requires.fits.acyclic) in
    fit-judged ms plan _ c.graph.ensures.order.ranked fit asked.0 asked.1

pub returns-clause-walked : goal.returns-clause-walked
returns-clause-walked g c =
    let ms = map (λ b. (goal.Provider-dyn g (b.vtable, b.value)).meaning b.value) c.args.providers.now in
    let plan = plan_of c.args.plan.now in
    let new = c.take_out.new.results in
    let sized = c.take_out.ensures.length ∙ c.requires.cells in
    let long : length c.args.results.items ≡ c.args.results.len = omega (arith, c.args.results.ok.0) in
    let fit = fit-lent g.N.WalkBrand.meanings ms g.N.WalkBrand.plan plan c.graph.result.now new c.args.results.items c.args.results.len c.deref.result.now c.requires.meanings c.requires.plan c.graph.ensures.graph (omega (arith, length-map c.args.plan.now.actions.items action_of, c.args.plan.now.counted, c.args.plan.now.actions.ok.0)) sized c.requires.results long c.deref.ensures.value c.take_out.ensures.fits c.demand_fit.ensures in
    let back : take c.args.results.len (new ++ drop (length new) c.args.results.items) ≡ new = taken-back new c.args.results.items c.args.results.len c.args.plan.now.order.nodes sized c.requires.results long in
    let ranked = c.graph.ensures.order.ranked in
    let done = action_results_of (take c.args.results.len (new ++ drop (length new) c.args.results.items)) in
    let entries = c.args.journal.entries in
    let report = c.report_of.result in
    let told = c.report_of.ensures.told in
    let written : report.journal.entries ≡ entries = ap (λ (l : Log). l.entries) c.report_of.ensures.journal in
    let allowed : IsInOrder (predecessors_of c.args.plan.now.order) (actions_of entries) =
    subst (λ (d : Digraph). IsInOrder (predecessors_of d) (actions_of entries)) c.requires.journal c.entries-entries.ensures.allowed in
    let same = reported_is_kept g.N.WalkBrand.table entries c.args.cells c.args.plan.now.order.nodes new c.args.part c.take_out.new.part c.requires.part c.requires.whole c.take_out.ensures.gathered c.requires.cells c.audit.ensures.balanced in
    let asked = some_requests plan (c.requires.fits.dependence.ranked c.requires.fits.acyclic) in
    let is_report =
    is_report-told ms asked.0 plan done told.0 report (λ excuses. true_outcomes ms plan done ranked fit asked.0 asked.1 report.excused.items (λ n below. excuses n)) (fit-asked ms plan done ranked fit asked.0 asked.1) told.1 in
    record {
      reported = record { requests = asked.0; are_requests = asked.1; done = done; outputs = told.0; is_report = is_report };
      journal =
          record {
            in_order = subst (λ es. IsInOrder (predecessors_of c.args.plan.now.order) (actions_of es)) (sym written) allowed;
            verdicts = λ n.
                ap (λ es. verdict_in es n) written
                ∙ (verdicts (predecessors_of c.args.plan.now.order) new entries allowed c.take_out.ensures.own same n
                ∙ ap (λ rs. entered_verdict (done_at (action_results_of rs) n)) (sym back));
            ops = subst (λ es. AllByRecursion (IsOfAction plan.actions) es) (sym written) (subst (λ (p : PlanView). AllByRecursion (IsOfAction p.actions) entries) c.requires.plan c.requires.ops);
          };
    }

pub returns-clause-journal : goal.returns-clause-journal
returns-clause-journal g c =
    ap (λ (j : Log). j.graph) c.report_of.ensures.journal ∙ c.requires.journal
