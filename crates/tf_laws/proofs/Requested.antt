-- What an action asked is what its block makes where names stand for what came of all.
use Rattle.std.proofs.Common.{◌≡◌, ◌∙◌, ◌<◌, ℕ, true, length, Option, Some, refl, sym, subst}
use Rattle.std.specs.List.{AllByRecursion}
use Rattle.std.specs.Prelude.{slice_get}
use Rattle.tf_plan_data.specs.Action.{ActionView}
use Rattle.tf_config_address.specs.ObjectId.{InstanceKeyView}
use Rattle.tf_plan_object.proofs.Locals.{instances_local}
use Rattle.tf_plan_object.specs.Instance.{instance_object}
use Rattle.tf_config_data.specs.Config.{BlockView}
use Rattle.tf_config_data.specs.Names.{Meant, a_block, meant_at, block_refers, directly_before, places, refers_at}
use Rattle.tf_expand_keys.proofs.Places.{along, names_stay}
use Rattle.tf_expand_keys.proofs.Seen.{agree_on}
use Rattle.tf_expand_keys.specs.Stages.{applying}
use Rattle.tf_expand_keys.specs.Resolved.{ResolvedView, AreResolvedNames, environment, rule, stands_at}
use Rattle.tf_expr_eval.proofs.Locality.{expressions_local}
use Rattle.tf_graph.proofs.Edges.{all_by_contained}
use Rattle.tf_graph.proofs.Solving.{all_by_at, solution-exists}
use Rattle.tf_graph.specs.Digraph.{predecessors_of}
use Rattle.tf_graph.specs.Solutions.{seen_by}
use Rattle.tf_walk_action.specs.Outcome.{done_at, objects_by}
use Rattle.tf_plan_data.specs.Fits.{is_apply}
use Rattle.tf_plan_data.specs.Plan.{plan_names}
use Rattle.tf_provider_protocol.specs.Schema.{SchemaView}
use Rattle.tf_walk_report.specs.Report.{objects_after}
use Rattle.tf_walk_names.proofs.Answering.{next_is}
use Rattle.tf_value_data.specs.Tree.{Tree}
use Rattle.tf_laws.proofs.Agree.{objects_agree}
use Rattle.tf_laws.proofs.Applied.{Applied}
use Rattle.tf_laws.proofs.Places.{meant_within}
use Rattle.tf_laws.proofs.Needing.{meant_same, needs_closed, needs_direct}

module _ (x : Applied) where
  module _ (resolved_names : ℕ → ResolvedView) (solves : AreResolvedNames (applying x.plan.shapes (objects_after x.plan x.done)) x.plan.variables (plan_names x.plan) resolved_names) where
    module _ (k : ℕ) (a : ActionView) (at : slice_get x.plan.actions k ≡ Some a) (applies : is_apply a.step ≡ true) where
      abbrev objects_then : ℕ → InstanceKeyView → Tree
      objects_then = objects_by x.plan (seen_by (done_at x.done) (predecessors_of x.plan.order k))

      module _ (others : ℕ → ResolvedView) (solves_then : AreResolvedNames (applying x.plan.shapes (objects_by x.plan (seen_by (done_at x.done) (predecessors_of x.plan.order k)))) x.plan.variables (plan_names x.plan) others) where
        abbrev IsAlike : ℕ → Type 0
        IsAlike m = x.plan.needs a.resource m ≡ true → others m ≡ resolved_names m

        alike_at : (m : ℕ) → m < length (plan_names x.plan) → AllByRecursion IsAlike (directly_before (plan_names x.plan) m) → IsAlike m
        alike_at m h before need =
            let then_before : AllByRecursion (λ b. others b ≡ resolved_names b) (directly_before (plan_names x.plan) m) =
            all_by_contained (λ b. others b ≡ resolved_names b) (directly_before (plan_names x.plan) m)
            (λ b c. all_by_at IsAlike (directly_before (plan_names x.plan) m) b before c (needs_closed x.plan x.ordered a.resource m b need c)) in
            let turned : AllByRecursion (λ b. resolved_names b ≡ others b) (directly_before (plan_names x.plan) m) =
            all_by_contained (λ b. resolved_names b ≡ others b) (directly_before (plan_names x.plan) m)
            (λ b c. sym (all_by_at IsAlike (directly_before (plan_names x.plan) m) b before c (needs_closed x.plan x.ordered a.resource m b need c))) in
            let one : stands_at (applying x.plan.shapes objects_then) m (meant_at (plan_names x.plan) m) (environment x.plan.variables (plan_names x.plan) resolved_names) ≡ others m =
            next_is x.plan.shapes objects_then x.plan.variables (plan_names x.plan) x.ranked resolved_names others solves_then m h (λ local. turned) in
            let two : stands_at (applying x.plan.shapes (objects_after x.plan x.done)) m (meant_at (plan_names x.plan) m) (environment x.plan.variables (plan_names x.plan) resolved_names) ≡ resolved_names m =
            next_is x.plan.shapes (objects_after x.plan x.done) x.plan.variables (plan_names x.plan) x.ranked resolved_names resolved_names solves m h (λ local. all_by_contained (λ b. resolved_names b ≡ resolved_names b) (directly_before (plan_names x.plan) m) (λ b c. refl)) in
            sym one
            ∙ meant_same x.plan.shapes objects_then (objects_after x.plan x.done) m (meant_at (plan_names x.plan) m) (environment x.plan.variables (plan_names x.plan) resolved_names)
            (λ key among. objects_agree x.ms (plan_names x.plan) x.plan.prior x.plan.prior.resources x.plan.needs x.plan.late x.plan.actions x.plan.order (done_at x.done) x.fit x.ordered k a at applies m key need)
            ∙ two

        alike : (m : ℕ) → m < length (plan_names x.plan) → IsAlike m
        alike m h = along (length (plan_names x.plan)) (directly_before (plan_names x.plan)) IsAlike x.ranked (names_stay (plan_names x.plan)) alike_at m h

        made_same : (block : BlockView) (key : InstanceKeyView) (schema : SchemaView) → meant_at (plan_names x.plan) a.resource ≡ Some (a_block block)
            → instance_object schema block key (environment x.plan.variables (plan_names x.plan) others) ≡ instance_object schema block key (environment x.plan.variables (plan_names x.plan) resolved_names)
        made_same block key schema meant =
            let inside = meant_within (plan_names x.plan) a.resource (a_block block) meant in
            let all : AllByRecursion (λ b. others b ≡ resolved_names b) (directly_before (plan_names x.plan) a.resource) =
            all_by_contained (λ b. others b ≡ resolved_names b) (directly_before (plan_names x.plan) a.resource)
            (λ b c. alike b (all_by_at (λ d. d < length (plan_names x.plan)) (directly_before (plan_names x.plan) a.resource) b (names_stay (plan_names x.plan) a.resource inside) c) (needs_direct x.plan x.ordered a.resource b c)) in
            let own : AllByRecursion (λ b. others b ≡ resolved_names b) (places (plan_names x.plan) (block_refers block)) =
            subst (λ (m : Option Meant). AllByRecursion (λ b. others b ≡ resolved_names b) (places (plan_names x.plan) (refers_at m))) meant all in
            instances_local expressions_local schema block key (environment x.plan.variables (plan_names x.plan) others) (environment x.plan.variables (plan_names x.plan) resolved_names)
            (agree_on x.plan.variables (plan_names x.plan) others resolved_names (block_refers block) own)

      -- what was requested
      pub requested : (block : BlockView) (schema : SchemaView) → meant_at (plan_names x.plan) a.resource ≡ Some (a_block block)
          → x.requests (objects_by x.plan (seen_by (done_at x.done) (predecessors_of x.plan.order k))) a schema ≡ instance_object schema block a.key (environment x.plan.variables (plan_names x.plan) resolved_names)
      requested block schema meant =
          let others = solution-exists (length (plan_names x.plan)) (directly_before (plan_names x.plan)) (rule (applying x.plan.shapes objects_then) x.plan.variables (plan_names x.plan)) x.ranked in
          x.are_requests objects_then a schema others.0 block others.1 meant ∙ made_same others.0 others.1 block a.key schema meant
