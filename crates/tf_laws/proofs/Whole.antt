-- An apply that went well has nothing left to do.
use Rattle.std.proofs.Common.{◌≡◌, ◌∙◌, ◌<◌, ℕ, Bool, true, false, List, Option, Some, None, length, map, refl, sym, ap, subst, ◌∷◌, []}
use Rattle.std.specs.List.{AllByRecursion}
use Rattle.std.specs.List.Sorted.{IsStrictlySortedBy}
use Rattle.tf_walk_buffers.specs.Dependencies.{dependencies}
use Rattle.tf_config_address.specs.ResourceAddr.{addr_cmp}
use Rattle.tf_config_address.specs.ObjectId.{InstanceKeyView}
use Rattle.tf_plan_object.specs.Laws.{InstancesGrow}
use Rattle.tf_config_data.specs.Config.{BlockView, ConfigView}
use Rattle.tf_config_data.specs.Names.{NameView, Meant, a_local, a_block, directly_before, meant_at}
use Rattle.tf_plan_decision.specs.Stage.{deciding, records_at}
use Rattle.tf_expand_keys.specs.StandingLaws.{ResolvedNamesGrow}
use Rattle.tf_expand_keys.specs.InstanceKeys.{InstanceKeysView, instance_keys}
use Rattle.tf_expand_keys.specs.Stages.{applying}
use Rattle.tf_expand_keys.specs.Resolved.{all_stand, environment, result_in, rule, stands_at, together, where_all}
use Rattle.tf_expr_eval.specs.Environment.{Environment}
use Rattle.tf_graph.proofs.Solving.{solution-exists}
use Rattle.tf_graph.specs.Solutions.{Ranked, seen_by}
use Rattle.tf_plan_order.specs.Members.{is_among}
use Rattle.tf_config_names.specs.Needs.{IsAcyclic}
use Rattle.tf_walk_action.specs.Outcome.{AreRequests, ActionResultView, Requests, called, excused, faulted, is_good, is_good_verdict, skipped}
use Rattle.tf_walk_action.specs.declared.excuse.Outcome.TheVariants.{Judged}
use Rattle.tf_walk_outputs.specs.Outputs.{OutputResultView, outputs_after}
use Rattle.tf_plan_planner.proofs.Blocks.{names-apart}
use Rattle.tf_plan_planner.proofs.Fitting.{all-by_id, plan-fits}
use Rattle.tf_plan_planner.proofs.Solved.{same_shapes}
use Rattle.tf_plan_planner.specs.Plan.{IsPlan, IsPlannedFrom}
use Rattle.tf_plan_data.specs.Plan.{PlanView, plan_names}
use Rattle.tf_provider_protocol.specs.Meaning.{Meaning}
use Rattle.tf_provider_protocol.specs.declared.verdict.Verdict.TheVariants as verdict
use Rattle.tf_walk_report.specs.Outcomes.{outcome_of}
use Rattle.tf_walk_report.specs.Report.{IsReport, objects_after}
use Rattle.tf_walk_report.specs.declared.report.Report.{Report}
use Rattle.tf_state.specs.Valid.{IsPresent, IsValid}
use Rattle.tf_state_data.specs.Ids.{AreById}
use Rattle.tf_state_next.specs.After.{object_at}
use Rattle.tf_state_data.specs.Record.{RecordView}
use Rattle.tf_state_data.specs.Resource.{ResourceView}
use Rattle.tf_state_data.specs.State.{StateView, record_in, state_of}
use Rattle.tf_value_data.specs.Known.{known_entries}
use Rattle.tf_value_data.specs.Tree.{Tree, Entries}
use Rattle.tf_laws.proofs.After.{kept_at}
use Rattle.tf_laws.proofs.Again.{none_refused}
use Rattle.tf_laws.proofs.Applied.{Applied}
use Rattle.tf_laws.proofs.Depends.{depends}
use Rattle.tf_laws.proofs.Lists.{all_weaker}
use Rattle.tf_laws.proofs.Places.{meant_within}
use Rattle.tf_laws.proofs.Rests.{after_rests}
use Rattle.tf_laws.proofs.Still.{nothing_at_rest}
use Rattle.tf_laws.proofs.Unrefused.{nothing_refused}
use Rattle.tf_laws.proofs.OwnParts.{plan_from, planned_of}
use Rattle.tf_laws.specs.Reapply.{Converges, IsCarriedOut, IsSound, NothingIsRefusedAgain, ReportsConverge, StateAfterIsAtRest}
use Rattle.tf_laws.specs.Known.{ExpressionsStayKnown}
use Rattle.tf_laws.specs.Rest.{AreAtRest}

-- ---- a plan by its own parts

by_id : (s : StateView) → IsValid s → AllByRecursion (λ r. AreById r.records) s.resources
by_id s valid = all_weaker IsPresent (λ r. AreById r.records) s.resources (λ r present. present.0.records.1) valid.resources.0

module _ (ms : List Meaning) (config : ConfigView) (variables : Entries) (prior : StateView) (plan : PlanView) (done : List ActionResultView) (outputs : Entries) (after : StateView)
    (sound : IsSound ms config variables prior) (carried : IsCarriedOut ms config variables prior plan done outputs after) where
  own_planned : IsPlannedFrom ms plan.prior.resources plan.variables (plan_names plan) plan.config.outputs plan.needs plan.shapes plan.actions plan.late plan.order
  own_planned = plan_from ms config variables prior plan carried.planned

  own_valid : IsValid plan.prior
  own_valid = subst IsValid (sym carried.planned.prior) sound.valid

  own_blocks : IsStrictlySortedBy addr_cmp (map (λ b. b.addr) plan.config.blocks)
  own_blocks = subst (λ (c : ConfigView). IsStrictlySortedBy addr_cmp (map (λ b. b.addr) c.blocks)) (sym carried.planned.config) sound.blocks

  own_acyclic : IsAcyclic (own_planned.ordered.tied.dependence)
  own_acyclic n = sym (ap (λ (f : ℕ → ℕ → Bool). f n n) own_planned.ordered.tied.needs) ∙ carried.acyclic n

  pub own_ranked : Ranked (directly_before (plan_names plan))
  own_ranked = own_planned.ordered.tied.is_dependence.ranked own_acyclic

  applied : Applied
  applied =
      let found = solution-exists (length (plan_names plan)) (directly_before (plan_names plan)) (rule (deciding ms plan.prior.resources plan.shapes) plan.variables (plan_names plan)) own_ranked in
      let apart = names-apart plan.config own_blocks in
      record {
        ms = ms;
        requests = carried.requests;
        plan = plan;
        excuses = carried.excuses;
        done = done;
        heads = carried.state.heads;
        outputs = outputs;
        after = after;
        planned = own_planned.planned;
        resolved_names = found.0;
        solves = found.1;
        ranked = own_ranked;
        apart = apart;
        by_address = own_valid.resources.1;
        by_id = by_id plan.prior own_valid;
        ordered = own_planned.ordered;
        fit =
            plan-fits ms plan.prior.resources plan.variables (plan_names plan) plan.config.outputs plan.shapes plan.actions own_planned.instances own_planned.planned apart own_valid.resources.1 (by_id plan.prior own_valid);
        schemas = sound.schemas;
        variables_known = subst (λ (v : Entries). known_entries v ≡ true) (sym carried.planned.variables) sound.variables_known;
        valid = own_valid;
        are_requests = carried.are_requests;
        outcomes = carried.outcomes;
        good = carried.good;
        are_heads = carried.state.are_heads;
        state = carried.state.after;
        in_order = carried.in_order;
      }

  own_rests : ExpressionsStayKnown → InstancesGrow → ResolvedNamesGrow → AreAtRest ms plan.variables (plan_names plan) plan.shapes (objects_after plan done) after.resources
  unfolding applied
  own_rests law grows grow = after_rests applied law grows grow

  -- and the record of each current object lists what its resource needs
  pub own_depends : (n : ℕ) (block : BlockView) (key : InstanceKeyView) (y : RecordView) → meant_at (plan_names plan) n ≡ Some (a_block block) → is_among (instance_keys (plan.shapes n)) key ≡ true
      → record_in block.addr (object_at key None) after ≡ Some y → y.dependencies ≡ dependencies plan.needs (plan_names plan) n
  unfolding applied
  own_depends n block key y meant among known =
      let kept = kept_at applied n block key meant among in
      let both : Some kept.only ≡ Some y = sym kept.there ∙ known in
      let same : kept.only ≡ y = (cc) in
      sym (ap (λ (r : RecordView). r.dependencies) same) ∙ depends applied n block key meant kept

pub state_rests : ExpressionsStayKnown → InstancesGrow → ResolvedNamesGrow → StateAfterIsAtRest
state_rests law grows grow ms config variables prior plan done outputs after sound carried = own_rests ms config variables prior plan done outputs after sound carried law grows grow

pub refuses_nothing : ExpressionsStayKnown → InstancesGrow → ResolvedNamesGrow → NothingIsRefusedAgain
unfolding applied
refuses_nothing law grows grow ms config variables prior plan done outputs after places sound carried made in_order =
    nothing_refused ms plan.variables (plan_names plan) plan.config.outputs plan.shapes (objects_after plan done) after.resources places
    (own_ranked ms config variables prior plan done outputs after sound carried) (own_rests ms config variables prior plan done outputs after sound carried law grows grow)
    (none_refused (applied ms config variables prior plan done outputs after sound carried) law grows grow made) in_order

-- ---- the same instances

stands_same : (shapes others : ℕ → InstanceKeysView) (objects : ℕ → InstanceKeyView → Tree) (n : ℕ) (m : Option Meant) (env : Environment) → shapes n ≡ others n → stands_at (applying others objects) n m env ≡ stands_at (applying shapes objects) n m env
stands_same shapes others objects n None env e = refl
stands_same shapes others objects n (Some (a_local x)) env e = refl
stands_same shapes others objects n (Some (a_block block)) env e = ap (λ (s : InstanceKeysView). together (Some s) (λ key. Some (objects n key))) (sym e)

-- resources at rest are so with these
pub rest_same : (ms : List Meaning) (variables : Entries) (names : List NameView) (shapes others : ℕ → InstanceKeysView) (objects : ℕ → InstanceKeyView → Tree) (resources : List ResourceView)
    → ((n : ℕ) → n < length names → shapes n ≡ others n) → AreAtRest ms variables names shapes objects resources → AreAtRest ms variables names others objects resources
rest_same ms variables names shapes others objects resources same h = record {
  blocks = h.blocks;
  declared = λ n block meant.
      subst (λ (s : InstanceKeysView). AllByRecursion (λ x. is_among (instance_keys s) x.id.key ≡ true) (records_at block.addr resources)) (same n (meant_within names n (a_block block) meant)) (h.declared n block meant);
  rest = λ resolved_names solves n block key meant among.
      h.rest resolved_names
      (λ k below. solves k below ∙ ap (where_all (all_stand (seen_by resolved_names (directly_before names k)))) (stands_same shapes others objects k (meant_at names k) (environment variables names (result_in (seen_by resolved_names (directly_before names k)))) (same k below)))
      n block key meant (subst (λ (s : InstanceKeysView). is_among (instance_keys s) key ≡ true) (sym (same n (meant_within names n (a_block block) meant))) among);
}

-- ---- nothing is planned again

pub converges : ExpressionsStayKnown → InstancesGrow → ResolvedNamesGrow → Converges
converges law grows grow ms config variables prior plan done outputs after again sound carried is =
    let first = plan_from ms config variables prior plan carried.planned in
    let second = planned_of ms after.resources variables plan.variables config plan.config again.needs again.shapes again.actions again.late again.order carried.planned.variables carried.planned.config is.planned in
    let ranked = own_ranked ms config variables prior plan done outputs after sound carried in
    let same = same_shapes plan.variables (plan_names plan) plan.shapes again.shapes ranked first.instances second.instances in
    let rests = own_rests ms config variables prior plan done outputs after sound carried law grows grow in
    nothing_at_rest ms plan.variables (plan_names plan) plan.config.outputs again.shapes (objects_after plan done) after.resources again.actions ranked
    (rest_same ms plan.variables (plan_names plan) plan.shapes again.shapes (objects_after plan done) after.resources same rests) second.planned

-- ---- a report

good_one : (d : ActionResultView) → outcome_of d ≡ Judged verdict.Good → is_good d ≡ true
good_one skipped e = absurd (cc)
good_one (excused moment) e = absurd (cc)
good_one (faulted why) e = absurd (cc)
good_one (called asked answer v) e = let same : v ≡ verdict.Good = (cc) in ap is_good_verdict same

all_good : (done : List ActionResultView) → AllByRecursion (λ o. o ≡ Judged verdict.Good) (map outcome_of done) → AllByRecursion (λ d. is_good d ≡ true) done
all_good [] h = tt
all_good (d ∷ done) h = (good_one d h.0, all_good done h.1)

-- what the report on a walk says was carried out, where each action was good
pub carried_out : (ms : List Meaning) (config : ConfigView) (variables : Entries) (prior : StateView) (plan : PlanView) (requests : Requests) (done : List ActionResultView) (outputs : List OutputResultView) (report : Report)
    → IsPlan ms config variables prior plan → ((n : ℕ) → plan.needs n n ≡ false) → AreRequests plan requests → IsReport ms requests plan done outputs report
    → AllByRecursion (λ o. o ≡ Judged verdict.Good) report.outcomes.items → IsCarriedOut ms config variables prior plan done (outputs_after plan.prior.outputs plan.config.outputs outputs) (state_of report.state)
carried_out ms config variables prior plan requests done outputs report planned acyclic are told all = record {
  planned = planned;
  acyclic = acyclic;
  requests = requests;
  are_requests = are;
  excuses = report.excused.items;
  outcomes = told.solved;
  good = all_good done (subst (AllByRecursion (λ o. o ≡ Judged verdict.Good)) told.told.outcomes all);
  state = told.told.state;
  in_order = record { resources = report.state.ordered; records = all-by_id report.state.resources.items };
}

pub reports_converge : ExpressionsStayKnown → InstancesGrow → ResolvedNamesGrow → ReportsConverge
reports_converge law grows grow ms config variables prior plan again requests done outputs report sound planned acyclic are told all is =
    converges law grows grow ms config variables prior plan done (outputs_after plan.prior.outputs plan.config.outputs outputs) (state_of report.state) again sound
    (carried_out ms config variables prior plan requests done outputs report planned acyclic are told all)
    is
