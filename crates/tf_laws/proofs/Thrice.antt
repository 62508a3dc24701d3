-- What a second and a third apply change after one that went well: their states whole, and their reports.
use Rattle.std.proofs.Common.{◌≡◌, ◌∙◌, ◌+◌, inl, inr, ℕ, Bool, true, false, cond, List, map, refl, sym, ap, subst}
use Rattle.tf_plan_object.specs.Laws.{InstancesGrow}
use Rattle.tf_config_data.specs.Config.{ConfigView}
use Rattle.tf_expand_keys.specs.StandingLaws.{ResolvedNamesGrow}
use Rattle.tf_state_next.proofs.Composed.{state_is}
use Rattle.tf_walk_outputs.specs.Outputs.{OutputResultView, outputs_after}
use Rattle.tf_walk_action.specs.Outcome.{ActionResultView}
use Rattle.tf_plan_planner.proofs.Fitting.{all-by_id}
use Rattle.tf_plan_planner.specs.Plan.{IsPlan}
use Rattle.tf_plan_data.specs.Plan.{PlanView}
use Rattle.tf_provider_protocol.specs.Meaning.{Meaning}
use Rattle.tf_walk_report.specs.Report.{IsTold}
use Rattle.tf_walk_report.specs.declared.report.Report.{Report}
use Rattle.tf_state_data.specs.Equality.{same_state, state_Decides}
use Rattle.tf_state_data.specs.State.{StateView, state_of}
use Rattle.tf_value_data.specs.Tree.{Entries}
use Rattle.tf_laws.proofs.Homes.{IsAtRest, home, homed, nothing_again}
use Rattle.tf_laws.proofs.Outputs.{outputs_stay}
use Rattle.tf_laws.proofs.Twice.{rested, second_resources, second_rests, third_resources, third_same}
use Rattle.tf_laws.proofs.Valued.{repeated}
use Rattle.tf_laws.proofs.Whole.{carried_out}
use Rattle.tf_laws.specs.Reapply.{IsCarriedOut, IsSound}
use Rattle.tf_laws.specs.Known.{ExpressionsStayKnown}
use Rattle.tf_laws.specs.Twice.{HasOrderedOutputs, HasOwnNames, HasToldSerial, IsAppliedAgain, IsAppliedWell, ReportsSettle, SecondAppliesChangeFlags, SecondAppliesKeepObjects, SecondSerialsTell, ThirdAppliesChangeNothing, ThirdAppliesKeepRecords, resource_without_flags, without_flags}

pub second_keeps : ExpressionsStayKnown → InstancesGrow → ResolvedNamesGrow → SecondAppliesKeepObjects
second_keeps law grows grow ms config variables prior plan done outputs after again later sound named carried is =
    let first = subst (λ (p : PlanView). IsCarriedOut ms config variables prior p done outputs after) (homed ms config variables prior plan carried.planned) carried in
    let second = subst (λ (p : PlanView). IsAppliedAgain ms config variables after p later) (homed ms config variables after again is.planned) is in (
      second_resources law grows grow ms config variables prior plan done outputs after sound named first again later second,
      second.state.after.lineage,
      second.state.after.version,
    )

pub third_keeps : ExpressionsStayKnown → InstancesGrow → ResolvedNamesGrow → ThirdAppliesKeepRecords
third_keeps law grows grow ms config variables prior plan done outputs after again later third last sound named carried is also =
    let first = subst (λ (p : PlanView). IsCarriedOut ms config variables prior p done outputs after) (homed ms config variables prior plan carried.planned) carried in
    let second = subst (λ (p : PlanView). IsAppliedAgain ms config variables after p later) (homed ms config variables after again is.planned) is in
    third_resources law grows grow ms config variables prior plan done outputs after sound named first again later second third last
    (subst (λ (p : PlanView). IsAppliedAgain ms config variables later p last) (homed ms config variables later third also.planned) also)

module _ (law : ExpressionsStayKnown) (grows : InstancesGrow) (grow : ResolvedNamesGrow) (ms : List Meaning) (config : ConfigView) (variables : Entries) (prior : StateView) (plan : PlanView) (after : StateView)
    (sound : IsSound ms config variables prior) (named : HasOwnNames config) (sorted : HasOrderedOutputs config) (well : IsAppliedWell ms config variables prior (home config variables prior plan) after)
    (again : PlanView) (later : StateView) (is : IsAppliedAgain ms config variables after (home config variables after again) later) where
  abbrev first_outputs : Entries
  first_outputs = outputs_after prior.outputs config.outputs well.outputs

  abbrev own_rested : IsAtRest ms config variables after
  own_rested = rested law grows grow ms config variables prior plan well.done (outputs_after prior.outputs config.outputs well.outputs) after sound named well.carried

  abbrev own_second : IsAtRest ms config variables later
  own_second = second_rests law grows grow ms config variables prior plan well.done (outputs_after prior.outputs config.outputs well.outputs) after sound named well.carried again later is

  second_outputs : later.outputs ≡ outputs_after prior.outputs config.outputs well.outputs
  second_outputs =
      is.state.after.outputs_are
      ∙ ap (λ (found : Entries). outputs_after found config.outputs is.outputs) well.carried.state.after.outputs_are
      ∙ outputs_stay config.outputs well.outputs is.outputs prior.outputs sound.valid.outputs.0 sorted
      (repeated ms config variables after own_rested again is.done (nothing_again ms config variables after own_rested (home config variables after again) is.planned) is.planned.planned.instances
      well.are_outputs.0 well.outputs is.outputs well.each_valued well.are_outputs.2 is.are_outputs)

  pub flags_change : without_flags later ≡ without_flags after
  flags_change =
      state_is 0 later.lineage later.terraform_version later.outputs after.outputs (map resource_without_flags later.resources) (map resource_without_flags after.resources) 0 after.lineage after.terraform_version refl
      is.state.after.lineage is.state.after.version (second_outputs ∙ sym well.carried.state.after.outputs_are)
      (second_resources law grows grow ms config variables prior plan well.done (outputs_after prior.outputs config.outputs well.outputs) after sound named well.carried again later is)

  serial_by : (b : Bool) → same_state (record later { serial = after.serial }) after ≡ b → HasToldSerial after later
  serial_by true e =
      let same : record later { serial = after.serial } ≡ after = (state_Decides (record later { serial = after.serial }) after).0 e in
      let serial : later.serial ≡ after.serial = is.state.after.serial ∙ ap (λ (c : Bool). cond c after.serial (after.serial + 1)) e in
      inl (ap (λ (n : ℕ). record later { serial = n }) serial ∙ same)
  serial_by false e = inr (
    is.state.after.serial ∙ ap (λ (c : Bool). cond c after.serial (after.serial + 1)) e,
    λ (resources : later.resources ≡ after.resources).
        let same : record later { serial = after.serial } ≡ after =
        state_is after.serial later.lineage later.terraform_version later.outputs after.outputs later.resources after.resources after.serial after.lineage after.terraform_version refl is.state.after.lineage is.state.after.version
        (second_outputs ∙ sym well.carried.state.after.outputs_are) resources in
        let yes : same_state (record later { serial = after.serial }) after ≡ true = (state_Decides (record later { serial = after.serial }) after).1 same in
        absurd (cc),
  )

  pub serial_tells : HasToldSerial after later
  serial_tells = serial_by (same_state (record later { serial = after.serial }) after) refl

  module _ (third : PlanView) (last : StateView) (also : IsAppliedAgain ms config variables later (home config variables later third) last) where
    third_outputs : outputs_after later.outputs config.outputs also.outputs ≡ later.outputs
    third_outputs =
        ap (λ (found : Entries). outputs_after found config.outputs also.outputs) second_outputs
        ∙ outputs_stay config.outputs well.outputs also.outputs prior.outputs sound.valid.outputs.0 sorted
        (repeated ms config variables later own_second third also.done (nothing_again ms config variables later own_second (home config variables later third) also.planned) also.planned.planned.instances
        well.are_outputs.0 well.outputs also.outputs well.each_valued well.are_outputs.2 also.are_outputs)
        ∙ sym second_outputs

    pub nothing_changes : last ≡ later
    nothing_changes =
        third_same law grows grow ms config variables prior plan well.done (outputs_after prior.outputs config.outputs well.outputs) after sound named well.carried again later is third last also third_outputs

-- ---- by their own plans

well_home : (ms : List Meaning) (config : ConfigView) (variables : Entries) (prior : StateView) (plan : PlanView) (after : StateView) → IsAppliedWell ms config variables prior plan after
    → IsAppliedWell ms config variables prior (home config variables prior plan) after
well_home ms config variables prior plan after well = subst (λ (p : PlanView). IsAppliedWell ms config variables prior p after) (homed ms config variables prior plan well.carried.planned) well

again_home : (ms : List Meaning) (config : ConfigView) (variables : Entries) (before : StateView) (again : PlanView) (later : StateView) → IsAppliedAgain ms config variables before again later
    → IsAppliedAgain ms config variables before (home config variables before again) later
again_home ms config variables before again later is = subst (λ (p : PlanView). IsAppliedAgain ms config variables before p later) (homed ms config variables before again is.planned) is

pub second_flags : ExpressionsStayKnown → InstancesGrow → ResolvedNamesGrow → SecondAppliesChangeFlags
second_flags law grows grow ms config variables prior plan after again later sound named sorted well is =
    flags_change law grows grow ms config variables prior plan after sound named sorted (well_home ms config variables prior plan after well) again later (again_home ms config variables after again later is)

pub second_serials : ExpressionsStayKnown → InstancesGrow → ResolvedNamesGrow → SecondSerialsTell
second_serials law grows grow ms config variables prior plan after again later sound named sorted well is =
    serial_tells law grows grow ms config variables prior plan after sound named sorted (well_home ms config variables prior plan after well) again later (again_home ms config variables after again later is)

pub third_nothing : ExpressionsStayKnown → InstancesGrow → ResolvedNamesGrow → ThirdAppliesChangeNothing
third_nothing law grows grow ms config variables prior plan after again later third last sound named sorted well is also =
    nothing_changes law grows grow ms config variables prior plan after sound named sorted (well_home ms config variables prior plan after well) again later (again_home ms config variables after again later is)
    third last (again_home ms config variables later third last also)

-- ---- reports

reported_again : (ms : List Meaning) (config : ConfigView) (variables : Entries) (before : StateView) (again : PlanView) (done : List ActionResultView) (outputs : List OutputResultView) (report : Report)
    → IsPlan ms config variables before again → IsTold ms again done outputs report → IsAppliedAgain ms config variables before again (state_of report.state)
reported_again ms config variables before again done outputs report planned told = record {
  planned = planned;
  done = done;
  outputs = outputs;
  are_outputs = told.outputs_done;
  state = told.state;
  in_order = record { resources = report.state.ordered; records = all-by_id report.state.resources.items };
}

pub reports_settle : ExpressionsStayKnown → InstancesGrow → ResolvedNamesGrow → ReportsSettle
reports_settle law grows grow ms config variables prior plan again third requests done done_again done_third outputs outputs_again outputs_third report second last sound named sorted planned acyclic are told all each_valued is_again told_again is_third told_third =
    let after = state_of report.state in
    let entries : outputs_after plan.prior.outputs plan.config.outputs outputs ≡ outputs_after prior.outputs config.outputs outputs = λ i. outputs_after (planned.prior i).outputs (planned.config i).outputs outputs in
    let carried : IsCarriedOut ms config variables prior plan done (outputs_after plan.prior.outputs plan.config.outputs outputs) (state_of report.state) =
    carried_out ms config variables prior plan requests done outputs report planned acyclic are told all in
    let well : IsAppliedWell ms config variables prior plan (state_of report.state) =
    record {
      done = done;
      outputs = outputs;
      carried = subst (λ (es : Entries). IsCarriedOut ms config variables prior plan done es (state_of report.state)) entries carried;
      are_outputs = told.told.outputs_done;
      each_valued = each_valued;
    } in
    let is = reported_again ms config variables (state_of report.state) again done_again outputs_again second is_again told_again in
    let also = reported_again ms config variables (state_of second.state) third done_third outputs_third last is_third told_third in (
      second_flags law grows grow ms config variables prior plan (state_of report.state) again (state_of second.state) sound named sorted well is,
      second_serials law grows grow ms config variables prior plan (state_of report.state) again (state_of second.state) sound named sorted well is,
      third_nothing law grows grow ms config variables prior plan (state_of report.state) again (state_of second.state) third (state_of last.state) sound named sorted well is also,
    )
