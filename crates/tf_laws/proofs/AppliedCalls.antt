-- In an apply each action that is called is asked as planned.
use Rattle.std.proofs.Common.{◌≡◌, ◌∙◌, ◌<◌, ◌+◌, inl, inr, ℕ, zero, suc, Bool, true, false, List, Option, Some, None, Contains, filter, length, refl, sym, ap, subst, arith}
use Rattle.std.specs.List.{AllByRecursion, range_with_len}
use Rattle.std.specs.Prelude.{slice_get}
use Rattle.tf_plan_data.specs.Action.{ActionView}
use Rattle.tf_laws.specs.AskingLaws.{RefinesWhere, planned_object}
use Rattle.tf_plan_object.proofs.Named.{instances_named}
use Rattle.tf_config_data.specs.Names.{a_block, directly_before, meant_at}
use Rattle.tf_laws.proofs.After.{at_index}
use Rattle.tf_laws.proofs.Agree.{IsApplyOf, needed_before, one_apply, seen_of}
use Rattle.tf_laws.proofs.Answers.{good_refines}
use Rattle.tf_laws.proofs.Grown.{was_made}
use Rattle.tf_laws.proofs.Lists.{all_from, got_within, in_range, nothing_in, to_filter}
use Rattle.tf_laws.proofs.Places.{meant_within}
use Rattle.tf_laws.proofs.Well.{IsGoodCall, good_call, good_object}
use Rattle.tf_expand_keys.proofs.Places.{along}
use Rattle.tf_expand_keys.specs.Stages.{applying}
use Rattle.tf_expand_keys.specs.Resolved.{rule}
use Rattle.tf_graph.proofs.Edges.{contains_cases}
use Rattle.tf_graph.proofs.Solving.{all_by_at, ranked-by_order, solution-exists}
use Rattle.tf_graph.specs.Digraph.{predecessors_of}
use Rattle.tf_graph.specs.Solutions.{IsOrderOf, seen_by}
use Rattle.tf_walk_action.specs.Asked.{AreRequests, Requests, asked_by_step, ignored_by}
use Rattle.tf_walk_action.specs.Objects.{object_of}
use Rattle.tf_walk_action.specs.Outcome.{AreOutcomes, ActionResultView, called, done_at, is_good, objects_by}
use Rattle.tf_walk_action.specs.declared.excuse.Excuse.{Excuse}
use Rattle.tf_plan_planner.proofs.Distinct.{at-contained, in_filter}
use Rattle.tf_plan_data.specs.Fits.{is_apply}
use Rattle.tf_plan_data.specs.Plan.{plan_names}
use Rattle.tf_provider_protocol.specs.Meaning.{Answer, Asked}
use Rattle.tf_provider_protocol.specs.Verdict.{has_attributes, is_good_verdict, verdict_on_object}
use Rattle.tf_provider_protocol.specs.declared.verdict.Verdict.{Verdict}
use Rattle.tf_provider_protocol.specs.declared.verdict.Verdict.TheVariants.{Good}
use Rattle.tf_value_data.proofs.Order.{Refines-trans}
use Rattle.tf_value_data.specs.Refinement.{Refines}
use Rattle.tf_value_data.specs.Tree.{Tree}
use Rattle.tf_laws.proofs.AskedAlike.{needs_transitive}
use Rattle.tf_laws.proofs.Called.{call_made, seen_good}
use Rattle.tf_laws.proofs.Instance.{of_instance}
use Rattle.tf_laws.proofs.PlannedParts.{Made, made}
use Rattle.tf_laws.proofs.RequestedAsPlanned.{Laws, as_planned, destroy_as_planned}
use Rattle.tf_laws.proofs.Steps.{asks_named, planned_applies}
use Rattle.tf_laws.specs.Requests.{CallsAreAsPlanned, IsAskedAsPlanned, StandAsPlanned}

-- an object is asked for where one is planned, to which that refines
wanted_there : (t : Tree) (planned wanted : Option Tree) → planned ≡ Some t → RefinesWhere planned wanted → (u : Tree) × (wanted ≡ Some u) × Refines t u
wanted_there t None wanted e h = absurd (cc)
wanted_there t (Some s) None e h = absurd h
wanted_there t (Some s) (Some u) e h = let same : s ≡ t = (cc) in (u, refl, subst (λ (v : Tree). Refines v u) same h)

below_range : (a n k : ℕ) → Contains (range_with_len a n) k → k < a + n
below_range a zero k c = absurd (nothing_in k c)
below_range a (suc n) k c = elim (contains_cases k a (range_with_len (a + 1) n) c) [
  | inl here ↦ omega (arith, here)
  | inr later ↦ let h = below_range (a + 1) n k later in omega (arith, h)
]

module _ (x : Made) (laws : Laws) (requests : Requests) (are : AreRequests x.plan requests) (excuses : List Excuse) (done : List ActionResultView) (outcomes : AreOutcomes x.ms requests x.plan excuses done) where
  abbrev then_seen : ℕ → List (ℕ × ActionResultView)
  then_seen k = seen_by (done_at done) (predecessors_of x.plan.order k)

  -- ---- one action after another

  -- what each action of a resource asks is as planned
  abbrev IsWell : ℕ → Type 0
  IsWell n = (k : ℕ) (a : ActionView) (asked : Asked) (answer : Option Answer) (v : Verdict) → slice_get x.plan.actions k ≡ Some a → is_apply a.step ≡ true → a.resource ≡ n → done_at done k ≡ called asked answer v → IsAskedAsPlanned a asked

  call_at_index : (j : ℕ) (b : ActionView) → slice_get x.plan.actions j ≡ Some b → is_good (done_at done j) ≡ true → IsGoodCall x.ms requests x.plan (objects_by x.plan (then_seen j)) b (done_at done j)
  call_at_index j b at good = good_call x.ms requests x.plan excuses done j b outcomes (got_within x.plan.actions j b at) at good

  -- what was asked for well has the schema's attributes
  wanted_named : (j : ℕ) (b : ActionView) (u : Tree) (call : IsGoodCall x.ms requests x.plan (objects_by x.plan (then_seen j)) b (done_at done j)) → slice_get x.plan.actions j ≡ Some b → is_apply b.step ≡ true
      → call.asked.object ≡ Some u → has_attributes call.schema u ≡ true
  wanted_named j b u call at applies object =
      let names = plan_names x.plan in
      let objects = objects_by x.plan (then_seen j) in
      let i = of_instance x b (at-contained x.plan.actions j b at) applies in
      let ignored = ignored_by (meant_at (plan_names x.plan) b.resource) in
      let made_object = was_made (ignored_by (meant_at (plan_names x.plan) b.resource)) call.schema b (requests objects b call.schema) b.step call.asked applies call.made in
      let others = solution-exists (length names) (directly_before names) (rule (applying x.plan.shapes objects) x.plan.variables names) x.ranked in
      let named = instances_named call.schema i.block b.key _ made_object.0 (sym (are objects b call.schema others.0 i.block others.1 i.meant) ∙ made_object.1) in
      asks_named (ignored_by (meant_at (plan_names x.plan) b.resource)) call.schema b made_object.0 u b.step call.asked named
      (sym (ap (λ p. asked_by_step (ignored_by (meant_at (plan_names x.plan) b.resource)) call.schema b p b.step) made_object.1) ∙ call.made) object

  -- where a good action asked as planned, what it was planned with refines to what was answered
  answered_well : (j : ℕ) (b : ActionView) (t : Tree) → slice_get x.plan.actions j ≡ Some b → is_good (done_at done j) ≡ true → planned_object b.step ≡ Some t → IsWell b.resource → Refines t (object_of (done_at done j))
  answered_well j b t at good planned well =
      let call = call_at_index j b at good in
      let applies = planned_applies b.step t planned in
      let asked = well j b call.asked (Some call.answer) Good at applies refl call.is in
      let wanted = wanted_there t (planned_object b.step) call.asked.object planned asked.object in
      let named = wanted_named j b wanted.0 call at applies wanted.1 in
      let verdict = good_object x.ms requests x.plan (objects_by x.plan (then_seen j)) b (done_at done j) call applies in
      let own : is_good_verdict (verdict_on_object call.schema (Some wanted.0) (object_of (done_at done j))) ≡ true =
      subst (λ (o : Option Tree). is_good_verdict (verdict_on_object call.schema o (object_of (done_at done j))) ≡ true) wanted.1 verdict in
      Refines-trans t wanted.0 (object_of (done_at done j)) wanted.2 (good_refines call.schema wanted.0 (object_of (done_at done j)) (x.schemas b.addr.type_name call.schema call.has) named own)

  -- so what was seen before a call is as planned
  seen_as_planned : (k : ℕ) (a : ActionView) → slice_get x.plan.actions k ≡ Some a → is_apply a.step ≡ true → ((j : ℕ) → Contains (predecessors_of x.plan.order k) j → is_good (done_at done j) ≡ true)
      → ((b : ActionView) → Contains x.plan.actions b → is_apply b.step ≡ true → x.plan.needs a.resource b.resource ≡ true → IsWell b.resource)
      → StandAsPlanned x.plan a.resource (objects_by x.plan (then_seen k))
  seen_as_planned k a at applies good before = record {
    planned = λ b t c need planned.
        let j = at_index x.plan.actions b c in
        let applies_b = planned_applies b.step t planned in
        let own : IsApplyOf x.plan.actions b.resource b.key j.0 = record { a = b; at = j.1; applies = applies_b; resource = refl; key_is = refl } in
        let there = needed_before (plan_names x.plan) x.plan.prior.resources x.plan.needs x.plan.late x.plan.actions x.plan.order x.ordered k j.0 a b at j.1 applies applies_b need in
        elim (seen_of (plan_names x.plan) x.plan.prior x.plan.actions (done_at done) b.resource b.key (predecessors_of x.plan.order k)) [
          | inl f ↦
              let same : f.0 ≡ j.0 = one_apply x.ms (plan_names x.plan) x.plan.prior.resources x.plan.actions x.fit b.resource b.key f.0 j.0 f.2 own in
              let answered = answered_well j.0 b t j.1 (good j.0 there) planned (before b c applies_b need) in
              subst (Refines t) (sym (f.3 ∙ ap (λ (i : ℕ). object_of (done_at done i)) same)) answered
          | inr none ↦ absurd (none.0 j.0 there own)
        ];
    left = λ n key need none.
        elim (seen_of (plan_names x.plan) x.plan.prior x.plan.actions (done_at done) n key (predecessors_of x.plan.order k)) [
          | inl f ↦ absurd (none f.2.a (at-contained x.plan.actions f.0 f.2.a f.2.at) f.2.applies f.2.resource f.2.key_is)
          | inr f ↦ f.1
        ];
  }

  -- ---- along what needs what

  abbrev needed_by : ℕ → List ℕ
  needed_by n = filter (x.plan.needs n) (range_with_len 0 (length (plan_names x.plan)))

  filtered_below : (test : ℕ → Bool) (count n : ℕ) → Contains (filter test (range_with_len 0 count)) n → (n < count) × (test n ≡ true)
  filtered_below test count n c =
      let both = in_filter test (range_with_len 0 count) n c in
      let below = below_range 0 count n both.0 in
      (omega (arith, below), both.1)

  ordered_needs : IsOrderOf (length (plan_names x.plan)) needed_by (λ a b. x.plan.needs b a)
  ordered_needs = record {
    irreflexive = λ a h. x.acyclic a;
    transitive = λ a b c h k one two. needs_transitive x c b a two one;
    holds = λ n. all_from (λ a. (a < length (plan_names x.plan)) × (x.plan.needs n a ≡ true)) (needed_by n) (λ a c. filtered_below (x.plan.needs n) (length (plan_names x.plan)) a c);
  }

  resource_below : (a : ActionView) → Contains x.plan.actions a → is_apply a.step ≡ true → a.resource < length (plan_names x.plan)
  resource_below a c applies = let i = of_instance x a c applies in meant_within (plan_names x.plan) a.resource (a_block i.block) i.meant

  well_at : (n : ℕ) → n < length (plan_names x.plan) → AllByRecursion IsWell (needed_by n) → IsWell n
  well_at n h before k a asked answer v at applies resource is =
      let c = at-contained x.plan.actions k a at in
      let call = call_made x.ms requests x.plan excuses done k a asked answer v outcomes (got_within x.plan.actions k a at) at is in
      let keep = seen_as_planned k a at applies (λ j there. seen_good (done_at done) (predecessors_of x.plan.order k) j call.good there)
      (λ b d applies_b need.
      all_by_at IsWell (needed_by n) b.resource before
      (to_filter (x.plan.needs n) (range_with_len 0 (length (plan_names x.plan))) b.resource (in_range 0 (length (plan_names x.plan)) b.resource (omega arith) (omega (arith, resource_below b d applies_b)))
      (ap (λ (m : ℕ). x.plan.needs m b.resource) (sym resource) ∙ need))) in
      as_planned x laws requests are (objects_by x.plan (then_seen k)) a asked keep c call.schema call.has call.asks

  well : (n : ℕ) → n < length (plan_names x.plan) → IsWell n
  well n h =
      along (length (plan_names x.plan)) needed_by IsWell (ranked-by_order (length (plan_names x.plan)) needed_by (λ a b. x.plan.needs b a) ordered_needs)
      (λ m below. all_from (λ a. a < length (plan_names x.plan)) (needed_by m) (λ a c. (filtered_below (x.plan.needs m) (length (plan_names x.plan)) a c).0)) well_at n h

  -- ---- all calls

  pub call_as_planned : (k : ℕ) (a : ActionView) (asked : Asked) (answer : Option Answer) (v : Verdict) → slice_get x.plan.actions k ≡ Some a → done_at done k ≡ called asked answer v → IsAskedAsPlanned a asked
  call_as_planned k a asked answer v at is = by_step (is_apply a.step) refl
    where
      by_step : (b : Bool) → is_apply a.step ≡ b → IsAskedAsPlanned a asked
      by_step true applies = well a.resource (resource_below a (at-contained x.plan.actions k a at) applies) k a asked answer v at applies refl is
      by_step false destroys =
          let call = call_made x.ms requests x.plan excuses done k a asked answer v outcomes (got_within x.plan.actions k a at) at is in
          destroy_as_planned (plan_names x.plan) call.schema a (requests (objects_by x.plan (then_seen k)) a call.schema) asked destroys call.asks

pub calls_as_planned : Laws → CallsAreAsPlanned
unfolding made
calls_as_planned laws ms config variables prior plan requests excuses done is are outcomes k a asked answer v at called_with =
    call_as_planned (made ms config variables prior plan is) laws requests are excuses done outcomes k a asked answer v at called_with
