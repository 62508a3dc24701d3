use Rattle.std.proofs.Common.{◌≡◌, ◌∙◌, ◌++◌, ℕ, List, length, map, sym, ap, ap₂, subst, arith}
use Rattle.std.proofs.lemmas.List.{length-map}
use Rattle.std.specs.List.{range_with_len}
use Rattle.tf_plan_data.specs.Action.{action_of}
use Rattle.tf_plan_data.specs.declared.action.Action.{Action}
use Rattle.tf_walk_report.specs.ActionReport.{AreJudged, told_in}
use Rattle.tf_walk_report.specs.Diagnostics.{action_diagnostics, diagnostic_of}
use Rattle.tf_walk_buffers.specs.BuffersHead.{buffers_head}
use Rattle.tf_config_address.specs.ResourceAddr.{ResourceAddrView}
use Rattle.tf_graph.specs.Solutions.{seen_by}
use Rattle.tf_state_next.specs.Events.{AreEachAboutOne, ApplyView, EventsView, apply_of, ends_in, events_of, given_in, metadata_update_of}
use Rattle.tf_state_next.specs.StateDraft.{IsStateDraft}
use Rattle.tf_state_next.specs.Sound.{AreSound}
use Rattle.tf_state_next.specs.StateAfter.{IsStateAfter}
use Rattle.tf_walk_action.specs.ResultViews.{action_results_of}
use Rattle.tf_walk_action.specs.Outcome.{done_at, objects_seen}
use Rattle.tf_walk_outputs.specs.Outputs.{AreOutputsDone, end_of, outputs_after, with_outputs}
use Rattle.tf_walk_outputs.specs.Buffers.{outputs_in}
use Rattle.tf_plan_data.specs.Plan.{plan_names, plan_of}
use Rattle.tf_provider_protocol.specs.declared.request.Op.{Op}
use Rattle.tf_state.specs.Valid.{IsValid}
use Rattle.tf_state_data.specs.State.{StateView, outputs_of, state_of}
use Rattle.tf_expr_syntax.specs.ExprTree as expr
use Rattle.tf_value_data.specs.Tree.{Entries}
use Rattle.tf_walk_report.specs.Events.{events}
use Rattle.tf_walk_report.specs.Reserved.{applied_addrs}
use Rattle.tf_walk_report.specs.Outcomes.{excuses_from, good_totals, outcome_of}
use Rattle.tf_walk_report.specs.OutputsBuffers.{places_of, told_of_texts}
use Rattle.tf_walk_report.specs.OutputsTold.{output_diagnostics, output_excuses}
use Rattle.tf_walk_report.specs.Report.{objects_after}
use Rattle.tf_walk_report.specs.Settling.{AreEnded}
use Rattle.tf_walk_report.proofs.Apart.{each-about_one}
use Rattle.tf_walk_report.proofs.Assembled.{ended-as, ends-sized}
use Rattle.tf_walk_report.proofs.Complete.{heads-sized, ops-actions, told_in-actions}
use Rattle.tf_walk_report.proofs.Joined.{each_ordered, events_are, events_as}
use Rattle.tf_walk_report.proofs.ResourceAddrs.{addrs-applied}
use Rattle.tf_walk_report.proofs.Sound.{events-sound}
use Rattle.tf_walk_report.proofs.Told.{told-places}
use Rattle.tf_walk_report.proofs.whole.report_of.Goals as goal

pub report_actions-requires-clause-judged : goal.report_actions-requires-clause-judged
report_actions-requires-clause-judged g c =
    let ms = map (λ b. (goal.Provider-dyn g (b.vtable, b.value)).meaning b.value) c.args.providers.now in
    let plan = plan_of c.args.plan.now in
    subst (λ (ops : List Op). AreJudged ms ops (action_results_of c.args.results.items)) (sym (ops-actions plan plan.actions (map buffers_head c.args.buffers.rooms.items) c.requires.buffers.rooms)) c.requires.judged

pub report_actions-requires-clause-paired : goal.report_actions-requires-clause-paired
report_actions-requires-clause-paired g c =
    let plan = plan_of c.args.plan.now in
    sym (length-map c.args.buffers.rooms.items buffers_head) ∙ heads-sized plan plan.actions (map buffers_head c.args.buffers.rooms.items) c.requires.buffers.rooms
    ∙ length-map c.args.plan.now.actions.items action_of ∙ sym c.requires.sized

pub tell_output_excuses-requires : goal.tell_output_excuses-requires
tell_output_excuses-requires g c =
    let f = c.args.buffers in
    let sized = ends-sized _ _ _ _ _ _ _ _ _ f.output_texts.items c.outputs_after-values.ensures.ended (c.requires.buffers.output_texts ∙ sym (ap places_of c.requires.buffers.outputs)) in
    let seen = ap length c.deref-5.ensures.value in
    let few = c.tell_excuses.ensures.few in
    let results = ap length c.deref-2.ensures.value in
    record { room = omega (arith, sized, seen, few, results, c.tell_excuses.ensures.capacity, c.requires.buffers.lists.excused_room, c.requires.sized, f.output_texts.ok.0, c.args.plan.now.actions.ok.0) }

pub tell_outputs-requires-clause-paired : goal.tell_outputs-requires-clause-paired
tell_outputs-requires-clause-paired g c =
    ends-sized _ _ _ _ _ _ _ _ _ c.args.buffers.output_texts.items c.outputs_after-values.ensures.ended (c.requires.buffers.output_texts ∙ sym (ap places_of c.requires.buffers.outputs))

pub tell_outputs-requires-clause-room : goal.tell_outputs-requires-clause-room
tell_outputs-requires-clause-room g c =
    let f = c.args.buffers in
    let sized = ends-sized _ _ _ _ _ _ _ _ _ f.output_texts.items c.outputs_after-values.ensures.ended (c.requires.buffers.output_texts ∙ sym (ap places_of c.requires.buffers.outputs)) in
    omega (arith, sized, c.report_actions.ensures.few, c.report_actions.ensures.capacity, c.requires.buffers.lists.diagnostics_room, c.requires.sized, f.output_texts.ok.0, c.args.plan.now.actions.ok.0)

pub state_after-requires-clause-draft : goal.state_after-requires-clause-draft
state_after-requires-clause-draft g c =
    let ms = map (λ b. (goal.Provider-dyn g (b.vtable, b.value)).meaning b.value) c.args.providers.now in
    let plan = plan_of c.args.plan.now in
    let heads = map buffers_head c.args.buffers.rooms.items in
    let done = action_results_of c.args.results.items in
    let f = c.args.buffers in
    let sized : length plan.actions ≡ length done = length-map c.args.plan.now.actions.items action_of ∙ sym c.requires.sized ∙ sym (length-map c.args.results.items _) in
    let addrs : map (λ (a : ApplyView). a.addr) (map apply_of c.report_actions.new.events.applies.items) ≡ applied_addrs plan.actions =
    ap (map (λ (a : ApplyView). a.addr)) c.report_actions.ensures.applies ∙ addrs-applied ms plan plan.actions heads done c.requires.buffers.rooms sized in
    subst (λ (ls : List ResourceAddrView). IsStateDraft (state_of f.draft.prior.now) ls f.draft) (sym addrs)
    (subst (λ (s : StateView). IsStateDraft s (applied_addrs plan.actions) f.draft) (sym c.requires.buffers.draft.of_prior) c.requires.buffers.draft)

pub state_after-requires-clause-apart : goal.state_after-requires-clause-apart
state_after-requires-clause-apart g c =
    let ms = map (λ b. (goal.Provider-dyn g (b.vtable, b.value)).meaning b.value) c.args.providers.now in
    let plan = plan_of c.args.plan.now in
    let heads = map buffers_head c.args.buffers.rooms.items in
    let done = action_results_of c.args.results.items in
    events_as AreEachAboutOne _ _ _ _ _ _ c.report_actions.ensures.destroys c.report_actions.ensures.applies (ap (λ es. map metadata_update_of es.items) c.report_actions.ensures.metadata_updates ∙ c.requires.buffers.metadata_updates)
    (each-about_one ms plan heads done c.requires.buffers.rooms c.requires.fits.apart c.requires.fits.placed c.args.plan.now.prior.ordered (each_ordered c.args.plan.now.prior.resources.items))

pub returns-clause-told : goal.returns-clause-told
returns-clause-told g c =
    let ms = map (λ b. (goal.Provider-dyn g (b.vtable, b.value)).meaning b.value) c.args.providers.now in
    let f = c.args.buffers in
    let fr = c.requires.buffers in
    let plan = plan_of c.args.plan.now in
    let names = plan_names plan in
    let heads = map buffers_head f.rooms.items in
    let results = c.args.results.items in
    let done = action_results_of results in
    let all : EventsView = events ms plan heads done in
    let after = c.outputs_after-values.result in
    let ends = after.ends.items in
    let e : AreEnded plan.variables names plan.shapes plan.prior plan.actions done f.settling after =
    ended-as f.settling after _ plan.variables _ names _ plan.shapes _ plan.prior _ plan.actions _ done c.outputs_after-values.ensures c.requires.variables c.requires.names (λ i. plan.shapes) (λ i. plan.prior) (λ i. plan.actions) (ap action_results_of c.deref-4.ensures.value) in
    let outputs = e.ended.dones in
    let told : ends ≡ map end_of outputs = e.ended.told in
    let values : outputs_of after.values.entries ≡ outputs_after plan.prior.outputs plan.config.outputs outputs =
    e.ended.saves ∙ ap₂ (λ (es : expr.Entries) (kept : Entries). with_outputs es outputs kept) fr.outputs fr.kept in
    let told_as : events_of c.report_actions.new.events ≡ all =
    events_are (events_of c.report_actions.new.events) all c.report_actions.ensures.destroys c.report_actions.ensures.applies (ap (λ es. map metadata_update_of es.items) c.report_actions.ensures.metadata_updates ∙ fr.metadata_updates) in
    let state : IsStateAfter (state_of f.draft.prior.now) (given_in all) (ends_in all) (outputs_of after.values.entries) (state_of c.state_after.result) =
    subst (λ (e : EventsView). IsStateAfter (state_of f.draft.prior.now) (given_in e) (ends_in e) (outputs_of after.values.entries) (state_of c.state_after.result)) told_as c.state_after.ensures.after in
    let count : c.args.plan.now.actions.len ≡ length plan.actions = omega (arith, c.args.plan.now.actions.ok.0, length-map c.args.plan.now.actions.items action_of) in
    let seen : f.settling.seen.items ≡ range_with_len 0 (length plan.actions) = fr.seen ∙ ap (λ (n : ℕ). range_with_len 0 n) count in
    let each : AreOutputsDone plan.variables names plan.shapes (objects_after plan done) e.settled plan.config.outputs outputs =
    subst (λ (es : expr.Entries). AreOutputsDone plan.variables names plan.shapes (objects_after plan done) e.settled es outputs) fr.outputs
    (subst (λ (ns : List ℕ). AreOutputsDone plan.variables names plan.shapes (objects_seen names plan.prior plan.actions (seen_by (done_at done) ns)) e.settled (outputs_in f.settling.rooms.items) outputs) seen e.ended.each) in
    let diagnostics : map diagnostic_of c.report_actions.new.diagnostics.items ≡ action_diagnostics plan.actions done =
    ◌∙◌ {b = told_in heads done} c.report_actions.ensures.tells (told_in-actions plan plan.actions heads done fr.rooms) in
    let of_outputs : told_of_texts _ ends ≡ output_diagnostics plan.config.outputs (map end_of outputs) = ap₂ told_of_texts fr.output_texts told ∙ told-places plan.config.outputs (map end_of outputs) in (
      outputs,
      record {
        lawful =
            c.tell_output_excuses.ensures
            ∙ ap₂ (λ xs es. xs ++ output_excuses 0 es) (c.tell_excuses.ensures.told ∙ ap (λ rs. excuses_from 0 (action_results_of rs)) c.deref-2.ensures.value) (c.deref-5.ensures.value ∙ told);
        outcomes = c.tell_outcomes.ensures ∙ ap (λ rs. map outcome_of (action_results_of rs)) c.deref.ensures.value;
        outputs_done = (e.settled, e.are_settled, each);
        state =
            record {
              heads = heads;
              are_heads = fr.rooms;
              after =
                  subst (λ (s : StateView). IsStateAfter s (given_in all) (ends_in all) (outputs_after plan.prior.outputs plan.config.outputs outputs) (state_of c.state_after.result)) fr.draft.of_prior
                  (subst (λ (es : Entries). IsStateAfter (state_of f.draft.prior.now) (given_in all) (ends_in all) es (state_of c.state_after.result)) values state);
            };
        valid = λ named prior.
            c.state_after.ensures.valid (subst IsValid (sym fr.draft.of_prior) prior)
            (subst AreSound (sym told_as) (events-sound ms plan heads done named fr.rooms c.requires.fits.declared c.report_actions.ensures.stored)) (e.stored (fr.kept_stored prior.outputs));
        diagnostics_told = c.tell_outputs.ensures ∙ ap₂ (λ xs ys. xs ++ ys) diagnostics of_outputs;
        good =
            c.count_good-good.ensures
            ∙ ap₂ (λ (xs : List Action) rs. good_totals (map action_of xs) (action_results_of rs)) c.as_slice.ensures.value c.deref-3.ensures.value;
      },
    )
