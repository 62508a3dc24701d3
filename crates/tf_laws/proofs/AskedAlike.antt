-- What is asked for an instance depends on what the instances of its resource's needs stand for alone.
use Rattle.std.proofs.Common.{◌≡◌, ◌∙◌, ◌<◌, ℕ, Bool, true, Option, Some, length, refl, sym, ap, subst}
use Rattle.std.specs.List.{AllByRecursion}
use Rattle.tf_plan_data.specs.Action.{ActionView}
use Rattle.tf_config_address.specs.ObjectId.{InstanceKeyView}
use Rattle.tf_plan_object.proofs.Locals.{instances_local}
use Rattle.tf_plan_object.specs.Instance.{instance_object}
use Rattle.tf_config_data.specs.Config.{BlockView}
use Rattle.tf_config_data.specs.Names.{Meant, a_block, meant_at, block_refers, directly_before, places, refers_at}
use Rattle.tf_laws.proofs.Places.{meant_within}
use Rattle.tf_expand_keys.proofs.Places.{along, names_stay}
use Rattle.tf_expand_keys.proofs.Seen.{agree_on}
use Rattle.tf_expand_keys.specs.InstanceKeys.{instance_keys}
use Rattle.tf_expand_keys.specs.Stages.{applying}
use Rattle.tf_expand_keys.specs.Resolved.{ResolvedView, AreResolvedNames, environment, rule, stands_at}
use Rattle.tf_expr_eval.proofs.Locality.{expressions_local}
use Rattle.tf_graph.proofs.Edges.{all_by_contained}
use Rattle.tf_graph.proofs.Solving.{all_by_at, solution-exists}
use Rattle.tf_plan_order.specs.Members.{is_among}
use Rattle.tf_walk_action.specs.Asked.{AreRequests, Requests}
use Rattle.tf_plan_data.specs.Plan.{plan_names}
use Rattle.tf_provider_protocol.specs.Schema.{SchemaView}
use Rattle.tf_walk_names.proofs.Answering.{next_is}
use Rattle.tf_value_data.specs.Tree.{Tree}
use Rattle.tf_laws.proofs.PlannedParts.{Made}
use Rattle.tf_laws.proofs.Needing.{meant_same, needs_closed, needs_direct}

module _ (x : Made) where
  pub needs_transitive : (a b c : ℕ) → x.plan.needs a b ≡ true → x.plan.needs b c ≡ true → x.plan.needs a c ≡ true
  needs_transitive a b c one two =
      let same = x.ordered.tied.needs in
      ap (λ (f : ℕ → ℕ → Bool). f a c) same
      ∙ x.ordered.tied.is_dependence.transitive a b c (sym (ap (λ (f : ℕ → ℕ → Bool). f a b) same) ∙ one) (sym (ap (λ (f : ℕ → ℕ → Bool). f b c) same) ∙ two)

  module _ (place : ℕ) (f g : ℕ → InstanceKeyView → Tree) (same : (n : ℕ) (key : InstanceKeyView) → x.plan.needs place n ≡ true → is_among (instance_keys (x.plan.shapes n)) key ≡ true → f n key ≡ g n key) where
    module _ (ones others : ℕ → ResolvedView) (solves_ones : AreResolvedNames (applying x.plan.shapes f) x.plan.variables (plan_names x.plan) ones)
        (solves_others : AreResolvedNames (applying x.plan.shapes g) x.plan.variables (plan_names x.plan) others) where
      abbrev IsAlike : ℕ → Type 0
      IsAlike m = x.plan.needs place m ≡ true → ones m ≡ others m

      alike_at : (m : ℕ) → m < length (plan_names x.plan) → AllByRecursion IsAlike (directly_before (plan_names x.plan) m) → IsAlike m
      alike_at m h before need =
          let turned : AllByRecursion (λ b. others b ≡ ones b) (directly_before (plan_names x.plan) m) =
          all_by_contained (λ b. others b ≡ ones b) (directly_before (plan_names x.plan) m)
          (λ b c. sym (all_by_at IsAlike (directly_before (plan_names x.plan) m) b before c (needs_closed x.plan x.ordered place m b need c))) in
          let one : stands_at (applying x.plan.shapes f) m (meant_at (plan_names x.plan) m) (environment x.plan.variables (plan_names x.plan) others) ≡ ones m =
          next_is x.plan.shapes f x.plan.variables (plan_names x.plan) x.ranked others ones solves_ones m h (λ local. turned) in
          let two : stands_at (applying x.plan.shapes g) m (meant_at (plan_names x.plan) m) (environment x.plan.variables (plan_names x.plan) others) ≡ others m =
          next_is x.plan.shapes g x.plan.variables (plan_names x.plan) x.ranked others others solves_others m h (λ local. all_by_contained (λ b. others b ≡ others b) (directly_before (plan_names x.plan) m) (λ b c. refl)) in
          sym one
          ∙ meant_same x.plan.shapes f g m (meant_at (plan_names x.plan) m) (environment x.plan.variables (plan_names x.plan) others) (λ key among. same m key need among)
          ∙ two

      alike : (m : ℕ) → m < length (plan_names x.plan) → IsAlike m
      alike m h = along (length (plan_names x.plan)) (directly_before (plan_names x.plan)) IsAlike x.ranked (names_stay (plan_names x.plan)) alike_at m h

      made_same : (block : BlockView) (key : InstanceKeyView) (schema : SchemaView) → meant_at (plan_names x.plan) place ≡ Some (a_block block)
          → instance_object schema block key (environment x.plan.variables (plan_names x.plan) ones) ≡ instance_object schema block key (environment x.plan.variables (plan_names x.plan) others)
      made_same block key schema meant =
          let inside = meant_within (plan_names x.plan) place (a_block block) meant in
          let all : AllByRecursion (λ b. ones b ≡ others b) (directly_before (plan_names x.plan) place) =
          all_by_contained (λ b. ones b ≡ others b) (directly_before (plan_names x.plan) place)
          (λ b c. alike b (all_by_at (λ d. d < length (plan_names x.plan)) (directly_before (plan_names x.plan) place) b (names_stay (plan_names x.plan) place inside) c) (needs_direct x.plan x.ordered place b c)) in
          let own : AllByRecursion (λ b. ones b ≡ others b) (places (plan_names x.plan) (block_refers block)) =
          subst (λ (m : Option Meant). AllByRecursion (λ b. ones b ≡ others b) (places (plan_names x.plan) (refers_at m))) meant all in
          instances_local expressions_local schema block key (environment x.plan.variables (plan_names x.plan) ones) (environment x.plan.variables (plan_names x.plan) others)
          (agree_on x.plan.variables (plan_names x.plan) ones others (block_refers block) own)

    -- what is requested is the same
    pub requests_same : (requests : Requests) (a : ActionView) (block : BlockView) (schema : SchemaView) → AreRequests x.plan requests → a.resource ≡ place → meant_at (plan_names x.plan) a.resource ≡ Some (a_block block)
        → requests f a schema ≡ requests g a schema
    requests_same requests a block schema are resource meant =
        let names = plan_names x.plan in
        let ones = solution-exists (length names) (directly_before names) (rule (applying x.plan.shapes f) x.plan.variables names) x.ranked in
        let others = solution-exists (length names) (directly_before names) (rule (applying x.plan.shapes g) x.plan.variables names) x.ranked in
        are f a schema ones.0 block ones.1 meant
        ∙ made_same ones.0 others.0 ones.1 others.1 block a.key schema (ap (meant_at (plan_names x.plan)) (sym resource) ∙ meant)
        ∙ sym (are g a schema others.0 block others.1 meant)
