-- There is one plan at most, or one list of refusals, and never both.
use Rattle.std.proofs.Common.{◌≡◌, ◌∙◌, ◌<◌, ◌≤◌, ◌⊎◌, inl, inr, ℕ, Bool, List, [], ◌∷◌, Some, Result, Err, length, map, refl, sym, ap, subst, arith}
use Rattle.std.proofs.lemmas.Bool.{cases_lt}
use Rattle.tf_plan_data.specs.Action.{ActionView}
use Rattle.tf_config_data.specs.Config.{ConfigView}
use Rattle.tf_config_data.specs.Names.{NameView, a_block, directly_before, addr_pair, meant_at, names_of, place_of}
use Rattle.tf_expand_keys.specs.InstanceKeys.{InstanceKeysView}
use Rattle.tf_expand_keys.specs.Resolved.{ResolvedView}
use Rattle.tf_expand_keys.specs.declared.repetition.RepetitionFault.{RepetitionFault}
use Rattle.tf_expand_keys.specs.Expanding.{IsFirstRefused, expanded}
use Rattle.tf_graph.specs.Solutions.{Ranked}
use Rattle.tf_plan_planner.proofs.Blocks.{names-apart}
use Rattle.tf_plan_planner.proofs.Excluding.{no_fault, none_unexpanded, not_many}
use Rattle.tf_plan_planner.proofs.Fitting.{AreFit, plan-fits}
use Rattle.tf_plan_planner.proofs.Solved.{many-by, refused-by, same_shapes}
use Rattle.tf_plan_planner.proofs.Tied.{block_found, late_same, needs_same}
use Rattle.tf_plan_planner.specs.Ordered.{AreTied, action_pairs, max_pairs}
use Rattle.tf_plan_planner.specs.Plan.{IsPlan, max_actions}
use Rattle.tf_plan_planner.specs.Planned.{AreInstances, IsPlanned, PlannedView, unrefused}
use Rattle.tf_plan_planner.specs.Refused.{AreManyActions, AreManyInstances, AreManyPairs, AreRefused, AreUnexpanded, AreUnplanned, IsUnexpanded, IsUnplanned, beyond_limit, instances_refusal}
use Rattle.tf_plan_data.specs.Plan.{PlanView}
use Rattle.tf_plan_text.specs.Text.{plan_text}
use Rattle.tf_plan_order.specs.OrderInput.{OrderInputView}
use Rattle.tf_provider_protocol.specs.Meaning.{Meaning}
use Rattle.tf_config_refusal.specs.Refusal.{RefusalView}
use Rattle.tf_plan_order.proofs.Standing.{resources-apart}
use Rattle.tf_plan_order.specs.ResourceLaws.{AreApart}
use Rattle.tf_plan_order.specs.ResourceIndex.{a_name, numbered}
use Rattle.tf_state_data.specs.State.{StateView}
use Rattle.tf_expr_syntax.specs.TemplateNames.{Pair}
use Rattle.tf_value_data.specs.Tree.{Entries}
use Rattle.tf_laws.proofs.Ordering.{BlocksNeedAlike, one_ordered, one_pairs}
use Rattle.tf_laws.proofs.Shaped.{one_planned}
use Rattle.tf_laws.specs.Plans.{AreOne, AreOrderly, PlansAreNotRefused, PlansAreOne, PlanTextsAreOne, RefusalsAreOne}

-- ---- what the expansion refuses is one

module _ (variables : Entries) (names : List NameView) (resolved_names : ℕ → ResolvedView) where
  same_fault : (why other : RepetitionFault) (r : Result InstanceKeysView RepetitionFault) → r ≡ Err why → r ≡ Err other → why ≡ other
  same_fault why other r e f = let same : ◌≡◌ {A = Result InstanceKeysView RepetitionFault} (Err why) (Err other) = sym e ∙ f in cc

  one_first : (n m : ℕ) (why other : RepetitionFault) → IsFirstRefused variables names resolved_names n why → IsFirstRefused variables names resolved_names m other → (n ≡ m) × (why ≡ other)
  one_first n m why other is also = elim (cases_lt n m) [
    | inl lower ↦ let before = also.first n lower in absurd (no_fault before.0 why (expanded variables names resolved_names n) before.1 is.refused)
    | inr up ↦ elim (cases_lt m n) [
      | inl lower ↦ let before = is.first m lower in absurd (no_fault before.0 other (expanded variables names resolved_names m) before.1 also.refused)
      | inr down ↦
          let same : n ≡ m = omega (arith, up, down) in
          (same, same_fault why other (expanded variables names resolved_names n) is.refused (ap (expanded variables names resolved_names) same ∙ also.refused))
    ]
  ]

module _ (variables : Entries) (names : List NameView) (ranked : Ranked (directly_before names)) (refusal_views others : List RefusalView) where
  one_unexpanded : IsUnexpanded variables names refusal_views → IsUnexpanded variables names others → refusal_views ≡ others
  one_unexpanded is also =
      let too = refused-by variables names ranked also.resolved_names also.place also.why also.stand also.first is.resolved_names is.stand in
      let one = one_first variables names is.resolved_names is.place also.place is.why also.why is.first too in
      let both : Some (a_block is.block) ≡ Some (a_block also.block) = sym is.is_block ∙ ap (meant_at names) one.0 ∙ also.is_block in
      let block : is.block ≡ also.block = (cc) in
      let told : instances_refusal is.block.addr is.why ≡ instances_refusal also.block.addr also.why = (let why = one.1 in λ i. instances_refusal (block i).addr (why i)) in
      is.refused ∙ ap (λ (t : RefusalView). t ∷ []) told ∙ sym also.refused

  -- where a name is refused, there aren't too many instances
  not_both : IsUnexpanded variables names refusal_views → AreManyInstances variables names others → ⊥
  not_both is many =
      let too = many-by variables names ranked many.resolved_names many.stand many.many is.resolved_names is.stand in
      no_fault (too.shapes is.place) is.why (expanded variables names is.resolved_names is.place) (too.each is.place is.first.inside) is.first.refused

-- ---- what is planned is one

module _ (ms : List Meaning) (config : ConfigView) (variables : Entries) (prior : StateView) (orderly : AreOrderly config prior) where
  blocks_apart : AreApart (map a_name (names_of config))
  blocks_apart = names-apart config orderly.blocks

  apart : AreApart (numbered (names_of config) prior.resources)
  apart = resources-apart (names_of config) prior.resources blocks_apart orderly.resources

  one_view : (shapes others : ℕ → InstanceKeysView) (p q : PlannedView) → AreInstances variables (names_of config) shapes → AreInstances variables (names_of config) others
      → IsPlanned ms prior.resources variables (names_of config) config.outputs shapes p → IsPlanned ms prior.resources variables (names_of config) config.outputs others q → p ≡ q
  one_view shapes others p q are too is also =
      one_planned ms prior.resources variables (names_of config) shapes others (same_shapes variables (names_of config) shapes others orderly.ranked are too) config.outputs p q orderly.ranked apart is also

  fits : (shapes : ℕ → InstanceKeysView) (actions : List ActionView) → AreInstances variables (names_of config) shapes → IsPlanned ms prior.resources variables (names_of config) config.outputs shapes (unrefused actions)
      → AreFit ms (names_of config) prior.resources actions
  fits shapes actions are is = plan-fits ms prior.resources variables (names_of config) config.outputs shapes actions are is blocks_apart orderly.resources orderly.records

  -- what is needed is one
  needs_one : (t u : OrderInputView) → AreTied (names_of config) prior.resources t → AreTied (names_of config) prior.resources u → (name : Pair) (n m : ℕ) → place_of (names_of config) name ≡ Some n → t.needs n m ≡ u.needs n m
  needs_one t u tied also name n m at =
      ap (λ (f : ℕ → ℕ → Bool). f n m) tied.needs ∙ needs_same (names_of config) tied.dependence also.dependence tied.is_dependence also.is_dependence name n at m
      ∙ sym (ap (λ (f : ℕ → ℕ → Bool). f n m) also.needs)

  blocks_alike : (t u : OrderInputView) → AreTied (names_of config) prior.resources t → AreTied (names_of config) prior.resources u → BlocksNeedAlike (names_of config) t.needs u.needs
  blocks_alike t u tied also n block meant m = needs_one t u tied also (addr_pair block.addr) n m (block_found config orderly.own_names blocks_apart n block meant)

  -- ---- one plan

  one_actions : (p q : PlanView) → IsPlan ms config variables prior p → IsPlan ms config variables prior q → p.actions ≡ q.actions
  one_actions p q is also =
      ap (λ (v : PlannedView). v.actions) (one_view p.shapes q.shapes (unrefused p.actions) (unrefused q.actions) is.planned.instances also.planned.instances is.planned.planned also.planned.planned)

  one_plan : (p q : PlanView) → IsPlan ms config variables prior p → IsPlan ms config variables prior q → AreOne p q
  one_plan p q is also =
      let t : OrderInputView = record { needs = p.needs; needed = is.planned.ordered.needed; late = p.late } in
      let u : OrderInputView = record { needs = q.needs; needed = also.planned.ordered.needed; late = q.late } in
      let actions : p.actions ≡ q.actions = one_actions p q is also in
      record {
        prior = is.prior ∙ sym also.prior;
        config = is.config ∙ sym also.config;
        variables = is.variables ∙ sym also.variables;
        shapes = λ n h. same_shapes variables (names_of config) p.shapes q.shapes orderly.ranked is.planned.instances also.planned.instances n (subst (λ (c : ConfigView). n < length (names_of c)) is.config h);
        needs = λ name n m at. needs_one t u is.planned.ordered.tied also.planned.ordered.tied name n m (subst (λ (c : ConfigView). place_of (names_of c) name ≡ Some n) is.config at);
        late = late_same (names_of config) prior.resources prior.resources t u is.planned.ordered.tied also.planned.ordered.tied refl refl;
        actions = actions;
        order =
            one_ordered (names_of config) prior.resources p.needs q.needs p.late q.late p.actions q.actions p.order q.order (blocks_alike t u is.planned.ordered.tied also.planned.ordered.tied)
            (fits p.shapes p.actions is.planned.instances is.planned.planned).declared actions is.planned.ordered also.planned.ordered;
      }

  -- ---- a plan, and nothing refused

  module _ (p : PlanView) (is : IsPlan ms config variables prior p) (refusal_views : List RefusalView) where
    none_refused : IsUnplanned ms prior.resources variables (names_of config) config.outputs refusal_views → ⊥
    none_refused h =
        h.some (sym (ap (λ (v : PlannedView). v.refusals) (one_view p.shapes h.shapes (unrefused p.actions) (record { actions = h.actions; refusals = refusal_views }) is.planned.instances h.instances is.planned.planned h.planned)))

    same_actions : (shapes : ℕ → InstanceKeysView) (actions : List ActionView) → AreInstances variables (names_of config) shapes
        → IsPlanned ms prior.resources variables (names_of config) config.outputs shapes (unrefused actions) → p.actions ≡ actions
    same_actions shapes actions are planned = ap (λ (v : PlannedView). v.actions) (one_view p.shapes shapes (unrefused p.actions) (unrefused actions) is.planned.instances are is.planned.planned planned)

    few_actions : AreManyActions ms prior.resources variables (names_of config) config.outputs refusal_views → ⊥
    few_actions h =
        let same : length p.actions ≡ length h.actions = ap (λ (xs : List ActionView). length xs) (same_actions h.shapes h.actions h.instances h.planned) in
        let few : length p.actions ≤ max_actions = is.planned.few in
        let many : max_actions < length h.actions = h.many in
        omega (arith, same, few, many)

    few_pairs : AreManyPairs ms prior.resources variables (names_of config) config.outputs refusal_views → ⊥
    few_pairs h =
        let t : OrderInputView = record { needs = p.needs; needed = is.planned.ordered.needed; late = p.late } in
        let u : OrderInputView = h.pairs.ties in
        let edges = is.planned.ordered.edges ∙ one_pairs (names_of config) prior.resources t u is.planned.ordered.tied h.pairs.tied (blocks_alike t u is.planned.ordered.tied h.pairs.tied) p.actions
        (fits p.shapes p.actions is.planned.instances is.planned.planned).declared ∙ ap (action_pairs u) (same_actions h.shapes h.actions h.instances h.planned) in
        let same : length p.order.edges ≡ length (action_pairs u h.actions) = ap (λ (xs : List (ℕ × ℕ)). length xs) edges in
        let few : length p.order.edges ≤ max_pairs = is.planned.ordered.few in
        let many : max_pairs < length (action_pairs u h.actions) = h.pairs.many.0 in
        omega (arith, same, few, many)

    not_refused : AreRefused ms config variables prior refusal_views → ⊥
    not_refused refused = elim refused [
      | inl unexpanded ↦ elim unexpanded [
        | inl h ↦ none_unexpanded variables (names_of config) orderly.ranked p.shapes is.planned.instances refusal_views h
        | inr h ↦ not_many variables (names_of config) orderly.ranked p.shapes is.planned.instances refusal_views h
      ]
      | inr unplanned ↦ elim unplanned [
        | inl h ↦ none_refused h
        | inr many ↦ elim many [ inl h ↦ few_actions h | inr h ↦ few_pairs h ]
      ]
    ]

  -- ---- one list of refusals

  instances_of : (refusal_views : List RefusalView) → AreUnplanned ms prior.resources variables (names_of config) config.outputs refusal_views → (shapes : ℕ → InstanceKeysView) × AreInstances variables (names_of config) shapes
  instances_of refusal_views unplanned = elim unplanned [
    | inl h ↦ (h.shapes, h.instances)
    | inr many ↦ elim many [ inl h ↦ (h.shapes, h.instances) | inr h ↦ (h.shapes, h.instances) ]
  ]

  -- what the expansion refuses leaves nothing to plan
  not_planned : (refusal_views others : List RefusalView) → AreUnexpanded variables (names_of config) refusal_views → AreUnplanned ms prior.resources variables (names_of config) config.outputs others → ⊥
  not_planned refusal_views others unexpanded unplanned =
      let found = instances_of others unplanned in
      elim unexpanded [
        | inl h ↦ none_unexpanded variables (names_of config) orderly.ranked found.0 found.1 refusal_views h
        | inr h ↦ not_many variables (names_of config) orderly.ranked found.0 found.1 refusal_views h
      ]

  module _ (refusal_views others : List RefusalView) where
    one_expansion : AreUnexpanded variables (names_of config) refusal_views → AreUnexpanded variables (names_of config) others → refusal_views ≡ others
    one_expansion is also = elim is [
      | inl h ↦ elim also [
        | inl k ↦ one_unexpanded variables (names_of config) orderly.ranked refusal_views others h k
        | inr k ↦ absurd (not_both variables (names_of config) orderly.ranked refusal_views others h k)
      ]
      | inr h ↦ elim also [
        | inl k ↦ absurd (not_both variables (names_of config) orderly.ranked others refusal_views k h)
        | inr k ↦ h.refused ∙ sym k.refused
      ]
    ]

    one_unplanned : IsUnplanned ms prior.resources variables (names_of config) config.outputs refusal_views → IsUnplanned ms prior.resources variables (names_of config) config.outputs others → refusal_views ≡ others
    one_unplanned h k =
        ap (λ (v : PlannedView). v.refusals)
        (one_view h.shapes k.shapes (record { actions = h.actions; refusals = refusal_views }) (record { actions = k.actions; refusals = others }) h.instances k.instances h.planned k.planned)

  limit_told : (refusal_views : List RefusalView) → AreManyActions ms prior.resources variables (names_of config) config.outputs refusal_views ⊎ AreManyPairs ms prior.resources variables (names_of config) config.outputs refusal_views → refusal_views ≡ beyond_limit ∷ []
  limit_told refusal_views many = elim many [ inl h ↦ h.refused | inr h ↦ h.pairs.many.1 ]

  -- where anything is refused of instances and outputs, that alone is told
  not_limited : (refusal_views others : List RefusalView) → IsUnplanned ms prior.resources variables (names_of config) config.outputs refusal_views
      → AreManyActions ms prior.resources variables (names_of config) config.outputs others ⊎ AreManyPairs ms prior.resources variables (names_of config) config.outputs others → ⊥
  not_limited refusal_views others h many = elim many [
    | inl k ↦ h.some (ap (λ (v : PlannedView). v.refusals) (one_view h.shapes k.shapes (record { actions = h.actions; refusals = refusal_views }) (unrefused k.actions) h.instances k.instances h.planned k.planned))
    | inr k ↦ h.some (ap (λ (v : PlannedView). v.refusals) (one_view h.shapes k.shapes (record { actions = h.actions; refusals = refusal_views }) (unrefused k.actions) h.instances k.instances h.planned k.planned))
  ]

  one_left : (refusal_views others : List RefusalView) → AreUnplanned ms prior.resources variables (names_of config) config.outputs refusal_views → AreUnplanned ms prior.resources variables (names_of config) config.outputs others → refusal_views ≡ others
  one_left refusal_views others is also = elim is [
    | inl h ↦ elim also [ inl k ↦ one_unplanned refusal_views others h k | inr k ↦ absurd (not_limited refusal_views others h k) ]
    | inr h ↦ elim also [ inl k ↦ absurd (not_limited others refusal_views k h) | inr k ↦ limit_told refusal_views h ∙ sym (limit_told others k) ]
  ]

  one_refused : (refusal_views others : List RefusalView) → AreRefused ms config variables prior refusal_views → AreRefused ms config variables prior others → refusal_views ≡ others
  one_refused refusal_views others is also = elim is [
    | inl h ↦ elim also [ inl k ↦ one_expansion refusal_views others h k | inr k ↦ absurd (not_planned refusal_views others h k) ]
    | inr h ↦ elim also [ inl k ↦ absurd (not_planned others refusal_views k h) | inr k ↦ one_left refusal_views others h k ]
  ]

-- ---- the laws

pub plans_one : PlansAreOne
plans_one ms config variables prior p q orderly is also = one_plan ms config variables prior orderly p q is also

pub texts_one : PlanTextsAreOne
texts_one ms config variables prior p q orderly is also =
    let one = one_plan ms config variables prior orderly p q is also in
    let actions : p.actions ≡ q.actions = one.actions in
    λ i. plan_text (λ n. one.late n i) (actions i)

pub plans_not_refused : PlansAreNotRefused
plans_not_refused ms config variables prior plan refusal_views orderly is refused = not_refused ms config variables prior orderly plan is refusal_views refused

pub refusals_one : RefusalsAreOne
refusals_one ms config variables prior refusal_views others orderly is also = one_refused ms config variables prior orderly refusal_views others is also
