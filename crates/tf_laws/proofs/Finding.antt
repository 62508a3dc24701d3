-- There is a plan, or something is refused.
use Rattle.std.proofs.Common.{◌≡◌, ◌∙◌, ◌<◌, ◌≤◌, ◌⊎◌, inl, inr, ℕ, zero, suc, List, [], ◌∷◌, Result, Ok, Err, length, map, refl, sym, ap, arith}
use Rattle.std.proofs.lemmas.Bool.{cases_eq, cases_lt}
use Rattle.tf_plan_data.specs.Action.{ActionView}
use Rattle.tf_config_data.specs.Config.{ConfigView}
use Rattle.tf_config_data.specs.Names.{NameView, directly_before, meant_at, names_of}
use Rattle.tf_plan_decision.specs.Stage.{deciding}
use Rattle.tf_expand_keys.specs.InstanceKeys.{InstanceKeysView, one}
use Rattle.tf_expand_keys.specs.Stages.{expansion}
use Rattle.tf_expand_keys.specs.Resolved.{ResolvedView, all_stand, environment}
use Rattle.tf_expand_keys.specs.declared.repetition.RepetitionFault.{RepetitionFault}
use Rattle.tf_expand_keys.specs.Expanding.{expanded, instances_before, max_instances}
use Rattle.tf_graph.specs.Solutions.{seen_by}
use Rattle.tf_config_names.specs.Needs.{IsAcyclic, IsDependence, needs_in}
use Rattle.tf_config_names.specs.declared.dependence.Dependence.{Dependence}
use Rattle.tf_plan_planner.proofs.Existing.{some_standings}
use Rattle.tf_plan_planner.proofs.Refusing.{refused_block}
use Rattle.tf_plan_planner.specs.Ordered.{AreTied, action_pairs, max_pairs, stored_graph}
use Rattle.tf_plan_planner.specs.Plan.{IsPlan, max_actions}
use Rattle.tf_plan_planner.proofs.Listing.{planned_in}
use Rattle.tf_plan_planner.specs.Planned.{AreInstances, IsPlanned, PlannedView, unrefused}
use Rattle.tf_plan_planner.specs.Refused.{AreRefused, beyond_limit, instances_refusal}
use Rattle.tf_plan_data.specs.Plan.{PlanView}
use Rattle.tf_plan_order.specs.Late.{IsLate}
use Rattle.tf_plan_order.specs.Stored.{Needed}
use Rattle.tf_plan_order.specs.OrderInput.{OrderInputView}
use Rattle.tf_provider_protocol.specs.Meaning.{Meaning}
use Rattle.tf_config_refusal.specs.Refusal.{RefusalView}
use Rattle.tf_plan_order.specs.Dependencies.{dependencies}
use Rattle.tf_plan_order.specs.Marks.{is_marked}
use Rattle.tf_plan_order.specs.ResourceIndex.{numbered}
use Rattle.tf_state_data.specs.Resource.{ResourceView}
use Rattle.tf_state_data.specs.State.{StateView}
use Rattle.tf_value_data.specs.Tree.{Entries}
use Rattle.tf_laws.proofs.Leading.{decided_late, decided_path, tested}
use Rattle.tf_laws.proofs.Sorting.{some_order}
use Rattle.tf_laws.proofs.Telling.{some_dependence}
use Rattle.tf_laws.specs.Plans.{PlannedOrRefused}

-- ---- instances

abbrev shape_or_one : Result InstanceKeysView RepetitionFault → InstanceKeysView
shape_or_one (Ok shape) = shape
shape_or_one (Err why) = one

kept_shape : (r : Result InstanceKeysView RepetitionFault) (shape : InstanceKeysView) → r ≡ Ok shape → r ≡ Ok (shape_or_one r)
kept_shape r shape e = e ∙ ap Ok (sym (ap shape_or_one e))

module _ (variables : Entries) (names : List NameView) (resolved_names : ℕ → ResolvedView) where
  -- the names before a place have their shapes
  abbrev pub AreTold : ℕ → Type 0
  AreTold n = (m : ℕ) → m < n → (shape : InstanceKeysView) × (expanded variables names resolved_names m ≡ Ok shape)

  -- or one of them is the first that is refused
  abbrev pub IsRefusedBefore : ℕ → Type 0
  IsRefusedBefore n = (m : ℕ) × (why : RepetitionFault) × (m < n) × (expanded variables names resolved_names m ≡ Err why) × AreTold m

  pub told_or_refused : (n : ℕ) → AreTold n ⊎ IsRefusedBefore n
  told_or_refused zero = inl (λ m h. absurd (omega (arith, h)))
  told_or_refused (suc n) = elim (told_or_refused n) [
    | inl told ↦ by_result (expanded variables names resolved_names n) refl told
    | inr first ↦ inr (first.0, first.1, omega (arith, first.2), first.3, first.4)
  ]
    where
      by_result : (r : Result InstanceKeysView RepetitionFault) → expanded variables names resolved_names n ≡ r → AreTold n → AreTold (suc n) ⊎ IsRefusedBefore (suc n)
      by_result (Ok shape) e told =
          inl (λ m h. elim (cases_eq m n) [ inl here ↦ (shape, ap (expanded variables names resolved_names) here ∙ e) | inr other ↦ told m (omega (arith, h, other)) ])
      by_result (Err why) e told = inr (n, why, omega arith, e, told)

-- ---- ties

pub some_ties : (names : List NameView) (resources : List ResourceView) (d : Dependence) → IsDependence names d → (ties : OrderInputView) × (ties.needs ≡ needs_in d) × AreTied names resources ties
some_ties names resources d is =
    let all = numbered names resources in
    let needed = λ (a b : ℕ). tested (Needed (dependencies all resources) a b) (decided_path (dependencies all resources) a b) in
    let late = λ (n : ℕ). tested (IsLate d.graph (stored_graph all resources) (map is_marked all) n) (decided_late d.graph (stored_graph all resources) (map is_marked all) n) in (
      record { needs = needs_in d; needed = λ a b. (needed a b).0; late = λ n. (late n).0 },
      refl,
      record {
        dependence = d;
        is_dependence = is;
        needs = refl;
        needed = λ a b. (needed a b).1;
        late = λ n. (late n).1;
      },
    )

-- ---- a plan, or refusals

module _ (ms : List Meaning) (config : ConfigView) (variables : Entries) (prior : StateView) (d : Dependence) (is : IsDependence (names_of config) d) (acyclic : IsAcyclic d) where
  abbrev pub Found : Type 0
  Found = ((plan : PlanView) × IsPlan ms config variables prior plan) ⊎ ((refusal_views : List RefusalView) × AreRefused ms config variables prior refusal_views)

  module _ (shapes : ℕ → InstanceKeysView) (instances : AreInstances variables (names_of config) shapes) where
    by_pairs : (actions : List ActionView) → IsPlanned ms prior.resources variables (names_of config) config.outputs shapes (unrefused actions) → length actions ≤ max_actions → Found
    by_pairs actions planned few =
        let found = some_ties (names_of config) prior.resources d is in
        let ties : OrderInputView = found.0 in
        elim (cases_lt max_pairs (length (action_pairs ties actions))) [
          | inl many ↦
              inr (
                beyond_limit ∷ [],
                inr
                    (inr
                    (inr
                    (record {
                      shapes = shapes;
                      actions = actions;
                      instances = instances;
                      planned = planned;
                      few = few;
                      pairs = record { ties = ties; tied = found.2; many = (many, refl) };
                    }))),
              )
          | inr fewer ↦
              inl (
                record {
                  prior = prior;
                  config = config;
                  variables = variables;
                  needs = ties.needs;
                  shapes = shapes;
                  late = ties.late;
                  actions = actions;
                  order = record { nodes = length actions; edges = action_pairs ties actions };
                },
                record {
                  prior = refl;
                  config = refl;
                  variables = refl;
                  planned = record {
                    instances = instances;
                    planned = planned;
                    few = few;
                    ordered = record { needed = ties.needed; tied = found.2; nodes = refl; edges = refl; few = fewer };
                  };
                },
              )
        ]

    by_actions : (actions : List ActionView) → IsPlanned ms prior.resources variables (names_of config) config.outputs shapes (unrefused actions) → Found
    by_actions actions planned = elim (cases_lt max_actions (length actions)) [
      | inl many ↦ inr (beyond_limit ∷ [], inr (inr (inl (record { shapes = shapes; actions = actions; instances = instances; planned = planned; many = many; refused = refl }))))
      | inr few ↦ by_pairs actions planned few
    ]

    by_refusals : (actions : List ActionView) (refusal_views : List RefusalView) → IsPlanned ms prior.resources variables (names_of config) config.outputs shapes (record { actions = actions; refusals = refusal_views }) → Found
    by_refusals actions [] planned = by_actions actions planned
    by_refusals actions (told ∷ refusal_views) planned =
        inr (told ∷ refusal_views, inr (inl (record { shapes = shapes; actions = actions; instances = instances; planned = planned; some = λ (none : told ∷ refusal_views ≡ []). absurd (cc) })))

    by_planned : Found
    by_planned =
        let found = some_standings (deciding ms prior.resources shapes) variables (names_of config) d is acyclic in
        let order = some_order (numbered (names_of config) prior.resources) in
        let view : PlannedView = planned_in ms prior.resources variables (names_of config) config.outputs shapes order.0 found.0 in
        by_refusals view.actions view.refusals (record { places = order.0; in_order = order.1; resolved_names = found.0; stand = found.1; actions = refl; refusals = refl })

  by_expansion : Found
  by_expansion =
      let names = names_of config in
      let found = some_standings expansion variables names d is acyclic in
      elim (told_or_refused variables names found.0 (length names)) [
        | inr first ↦
            let block = refused_block (all_stand (seen_by found.0 (directly_before names first.0))) (meant_at names first.0) (environment variables names found.0) first.1 first.3 in
            inr (
              instances_refusal block.0.addr first.1 ∷ [],
              inl
                  (inl
                  (record {
                    place = first.0;
                    why = first.1;
                    block = block.0;
                    is_block = block.1;
                    resolved_names = found.0;
                    stand = found.1;
                    first = record { inside = first.2; refused = first.3; first = first.4 };
                    refused = refl;
                  })),
            )
        | inl told ↦
            let shapes : ℕ → InstanceKeysView = λ n. shape_or_one (expanded variables names found.0 n) in
            let each = λ (n : ℕ) (h : n < length names). kept_shape (expanded variables names found.0 n) (told n h).0 (told n h).1 in
            elim (cases_lt max_instances (instances_before names shapes (length names))) [
              | inl many ↦
                  inr
                  (beyond_limit ∷ [], inl (inr (record { resolved_names = found.0; stand = found.1; many = record { shapes = shapes; each = each; more = many }; refused = refl })))
              | inr few ↦ by_planned shapes (record { resolved_names = found.0; stand = found.1; expanded = record { each = each; few = few } })
            ]
      ]

pub planned_or_refused : PlannedOrRefused
planned_or_refused ms config variables prior few none = let told = some_dependence (names_of config) few none in by_expansion ms config variables prior told.0 told.1 told.2
