-- What may be refused over the state that an apply left.
use Rattle.std.proofs.Common.{◌≡◌, ◌≤◌, ◌<◌, ℕ, List, [], ◌∷◌, length, inl, inr, subst, arith}
use Rattle.tf_plan_data.specs.Action.{ActionView}
use Rattle.tf_config_address.specs.ObjectId.{InstanceKeyView}
use Rattle.tf_cli.specs.Applies.{IsApplied, state_in}
use Rattle.tf_cli_text.specs.declared.applied.Applied.{Applied}
use Rattle.tf_config_data.specs.Config.{ConfigView}
use Rattle.tf_config_data.specs.Names.{NameView, directly_before, names_of}
use Rattle.tf_laws.proofs.Whole.{carried_out, rest_same}
use Rattle.tf_laws.specs.Reapply.{IsCarriedOut, StateAfterIsAtRest}
use Rattle.tf_laws.specs.Rest.{AreAtRest, NothingIsPlannedAtRest}
use Rattle.tf_expand_keys.specs.InstanceKeys.{InstanceKeysView}
use Rattle.tf_graph.specs.Solutions.{Ranked}
use Rattle.tf_walk_outputs.specs.Outputs.{outputs_after}
use Rattle.tf_plan_planner.proofs.Excluding.{none_unexpanded, not_many}
use Rattle.tf_plan_planner.proofs.Solved.{same_shapes}
use Rattle.tf_plan_planner.specs.Planned.{AreInstances}
use Rattle.tf_plan_planner.specs.Refused.{AreManyActions, AreManyPairs, AreManyPairsBy, AreRefusedOf, IsUnplanned}
use Rattle.tf_plan_data.specs.Plan.{plan_names}
use Rattle.tf_plan_order.specs.OrderInput.{OrderInputView}
use Rattle.tf_provider_protocol.specs.Meaning.{Meaning}
use Rattle.tf_config_refusal.specs.Refusal.{RefusalView}
use Rattle.tf_walk_report.specs.Report.{objects_after, report_of}
use Rattle.tf_state.specs.Table.{IsBeyond, last_serial}
use Rattle.tf_state_data.specs.Resource.{ResourceView}
use Rattle.tf_expr_syntax.specs.ExprTree as expr
use Rattle.tf_value_data.specs.Tree.{Entries, Tree}
use Rattle.tf_laws.proofs.Counted.{beyond_by_serial}
use Rattle.tf_laws.proofs.PlannedOverTexts.{Laws, plan_acyclic, plan_ranked, reported, sound}
use Rattle.tf_laws.specs.ReapplyTexts.{HaveSchemas, WentWell}

-- ---- no refusal of the instances of resources at rest, but of what is planned of them

no_pairs : (ties : OrderInputView) (actions : List ActionView) (refusal_views : List RefusalView) → actions ≡ [] → AreManyPairsBy ties actions refusal_views → ⊥
no_pairs ties [] refusal_views none many = absurd (omega (arith, many.0))
no_pairs ties (a ∷ actions) refusal_views none many = absurd (cc)

no_many : (actions : List ActionView) (n : ℕ) → actions ≡ [] → n < length actions → ⊥
no_many [] n none many = absurd (omega (arith, many))
no_many (a ∷ actions) n none many = absurd (cc)

module _ (ms : List Meaning) (variables : Entries) (names : List NameView) (outputs : expr.Entries) (shapes : ℕ → InstanceKeysView) (objects : ℕ → InstanceKeyView → Tree) (resources : List ResourceView)
    (ranked : Ranked (directly_before names)) (instances : AreInstances variables names shapes) (rests : AreAtRest ms variables names shapes objects resources) (law : NothingIsPlannedAtRest) where
  few_actions : (refusal_views : List RefusalView) → AreManyActions ms resources variables names outputs refusal_views → ⊥
  few_actions refusal_views h =
      no_many h.actions _ (law ms variables names outputs h.shapes objects resources h.actions ranked (rest_same ms variables names shapes h.shapes objects resources (same_shapes variables names shapes h.shapes ranked instances h.instances) rests) h.planned) h.many

  few_pairs : (refusal_views : List RefusalView) → AreManyPairs ms resources variables names outputs refusal_views → ⊥
  few_pairs refusal_views h =
      no_pairs h.pairs.ties h.actions refusal_views (law ms variables names outputs h.shapes objects resources h.actions ranked (rest_same ms variables names shapes h.shapes objects resources (same_shapes variables names shapes h.shapes ranked instances h.instances) rests) h.planned)
      h.pairs.many

  pub only_unplanned : (refusal_views : List RefusalView) → AreRefusedOf ms resources variables names outputs refusal_views → IsUnplanned ms resources variables names outputs refusal_views
  only_unplanned refusal_views h = elim h [
    | inl unexpanded ↦ elim unexpanded [ inl one ↦ absurd (none_unexpanded variables names ranked shapes instances refusal_views one) | inr many ↦ absurd (not_many variables names ranked shapes instances refusal_views many) ]
    | inr unplanned ↦ elim unplanned [
      | inl is ↦ is
      | inr many ↦ elim many [ inl actions ↦ absurd (few_actions refusal_views actions) | inr pairs ↦ absurd (few_pairs refusal_views pairs) ]
    ]
  ]

-- ---- the state that an apply left

module _ (laws : Laws) (rest : StateAfterIsAtRest) (quiet : NothingIsPlannedAtRest) (ms : List Meaning) (lineage : List ℕ) (a : Applied) (schemas : HaveSchemas ms) where
  -- the resources of that state are at rest with the configuration and the variables
  pub rests_after : (texts : _) (applied : IsApplied ms texts lineage a) → WentWell a
      → (objects : ℕ → InstanceKeyView → Tree) × AreAtRest ms applied.planned.values (names_of applied.planned.config) applied.plan.shapes objects (state_in a).resources
  rests_after texts applied well =
      let planned = applied.planned in
      let plan = applied.plan in
      let told = reported ms plan a.walked applied.carried_out.walked in
      let report = report_of a.walked in
      let outputs : Entries = outputs_after plan.prior.outputs plan.config.outputs told.outputs in
      let carried : IsCarriedOut ms planned.config planned.values planned.prior plan told.done outputs (state_in a) =
      carried_out ms planned.config planned.values planned.prior plan told.requests told.done told.outputs report planned.planned (plan_acyclic ms texts lineage plan planned) told.are_requests told.is_report well in
      let own : AreAtRest ms plan.variables (plan_names plan) plan.shapes (objects_after plan told.done) (state_in a).resources =
      rest ms planned.config planned.values planned.prior plan told.done outputs (state_in a) (sound laws ms texts lineage planned.config planned.values planned.prior schemas planned.stand) carried in (
        objects_after plan told.done,
        subst (λ (v : Entries). AreAtRest ms v (names_of planned.config) plan.shapes (objects_after plan told.done) (state_in a).resources) planned.planned.variables
            (subst (λ (c : ConfigView). AreAtRest ms plan.variables (names_of c) plan.shapes (objects_after plan told.done) (state_in a).resources) planned.planned.config own),
      )

  -- what is refused of the configuration and the variables of an apply that went well over what it left
  pub unplanned_after : (texts : _) (applied : IsApplied ms texts lineage a) → WentWell a → (refusal_views : List RefusalView)
      → AreRefusedOf ms (state_in a).resources applied.planned.values (names_of applied.planned.config) applied.planned.config.outputs refusal_views
      → IsUnplanned ms (state_in a).resources applied.planned.values (names_of applied.planned.config) applied.planned.config.outputs refusal_views
  unplanned_after texts applied well refusal_views refused =
      let planned = applied.planned in
      let plan = applied.plan in
      let rests = rests_after texts applied well in
      let ranked : Ranked (directly_before (names_of planned.config)) = subst (λ (c : ConfigView). Ranked (directly_before (names_of c))) planned.planned.config (plan_ranked ms texts lineage plan planned) in
      only_unplanned ms planned.values (names_of planned.config) planned.config.outputs plan.shapes rests.0 (state_in a).resources ranked planned.planned.planned.instances rests.1 quiet refusal_views refused

  -- that state is beyond a limit by its serial alone
  pub serial_after : (texts : _) (applied : IsApplied ms texts lineage a) → WentWell a → IsBeyond (state_in a) → last_serial ≤ (state_in a).serial
  serial_after texts applied well beyond =
      beyond_by_serial applied.planned.config (state_in a) applied.planned.stand.read.counts (rests_after texts applied well).1.blocks (report_of a.walked).state.ordered beyond
