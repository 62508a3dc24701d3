-- What a plan without a refusal has: each instance at each place is decided, and the actions are those of all places.
use Rattle.std.proofs.Common.{◌≡◌, ◌∙◌, ◌++◌, ℕ, List, [], Option, Some, map, sym, ap, subst}
use Rattle.std.specs.List.{AllByRecursion, flat_map}
use Rattle.std.specs.Prelude.{Contains, slice_get}
use Rattle.tf_plan_data.specs.Action.{ActionView}
use Rattle.tf_config_data.specs.Config.{BlockView}
use Rattle.tf_config_data.specs.Names.{NameView, a_block, directly_before, meant_at}
use Rattle.tf_plan_decision.specs.Outcome.{orphan_outcome}
use Rattle.tf_plan_decision.specs.Stage.{deciding}
use Rattle.tf_plan_decision.specs.Deciding.{instance_actions, instance_refusals}
use Rattle.tf_plan_decision.specs.Whole.{instances}
use Rattle.tf_expand_keys.specs.InstanceKeys.{InstanceKeysView}
use Rattle.tf_expand_keys.specs.Resolved.{ResolvedView, AreResolvedNames}
use Rattle.tf_graph.specs.Solutions.{Ranked}
use Rattle.tf_plan_order.specs.Members.{members}
use Rattle.tf_plan_planner.proofs.Listing.{listed-actions, place_actions, planned_in}
use Rattle.tf_plan_planner.proofs.Solved.{planned-by}
use Rattle.tf_plan_planner.specs.Outputs.{output_refusals}
use Rattle.tf_plan_planner.specs.Planned.{IsPlanned, PlannedView, unrefused}
use Rattle.tf_plan_planner.specs.Told.{instance_told}
use Rattle.tf_provider_protocol.specs.Meaning.{Meaning, schema_in}
use Rattle.tf_plan_order.specs.ResourceIndex.{ResourceRefView, a_name, an_orphan, numbered}
use Rattle.tf_state_data.specs.Resource.{ResourceView}
use Rattle.tf_expr_syntax.specs.ExprTree as expr
use Rattle.tf_value_data.specs.Tree.{Entries}
use Rattle.tf_laws.proofs.Decided.{IsFine, IsNumberedFine, IsMeantFine, all_fine}
use Rattle.tf_laws.proofs.Lists.{all_contained, map_none}
use Rattle.tf_laws.proofs.Places.{block_looked_at, name_at, orphan_looked_at}

module _ (ms : List Meaning) (variables : Entries) (names : List NameView) (outputs : expr.Entries) (shapes : ℕ → InstanceKeysView) (resources : List ResourceView) (actions : List ActionView)
    (planned : IsPlanned ms resources variables names outputs shapes (unrefused actions))
    (resolved_names : ℕ → ResolvedView) (solves : AreResolvedNames (deciding ms resources shapes) variables names resolved_names) (ranked : Ranked (directly_before names)) where
  is_planned : planned_in ms resources variables names outputs shapes planned.places resolved_names ≡ unrefused actions
  is_planned = planned-by variables names ranked ms resources outputs shapes (unrefused actions) planned resolved_names solves

  fine : AllByRecursion (λ n. IsNumberedFine ms resources variables names shapes resolved_names n (slice_get (numbered names resources) n)) planned.places
  fine =
      let refusals = flat_map instance_refusals (instances ms resources variables names shapes resolved_names planned.places) in
      let told : map instance_told refusals ++ output_refusals variables names resolved_names outputs ≡ [] =
      ap (λ (p : PlannedView). p.refusals) is_planned in
      let none = map_none instance_told refusals (output_refusals variables names resolved_names outputs) told in
      all_fine ms resources variables names shapes resolved_names planned.places none

  place_fine : (n : ℕ) (o : Option ResourceRefView) → slice_get (numbered names resources) n ≡ o → Contains planned.places n → IsNumberedFine ms resources variables names shapes resolved_names n o
  place_fine n o e there =
      subst (IsNumberedFine ms resources variables names shapes resolved_names n) e
      (all_contained (λ k. IsNumberedFine ms resources variables names shapes resolved_names k (slice_get (numbered names resources) k)) planned.places n fine there)

  -- each member of a block is decided, where all that it needs stands for something
  pub block_fine : (n : ℕ) (block : BlockView) → meant_at names n ≡ Some (a_block block) → IsMeantFine ms resources variables names shapes resolved_names n (a_block block)
  block_fine n block meant =
      let name = name_at names resources n (a_block block) meant in
      subst (IsMeantFine ms resources variables names shapes resolved_names n) name.2
      (place_fine n (Some (a_name name.0)) name.1 (block_looked_at names resources planned.places n block planned.in_order meant))

  -- each member of an orphan is
  pub orphan_fine : (n : ℕ) (r : ResourceView) → slice_get (numbered names resources) n ≡ Some (an_orphan r) → AllByRecursion (λ m. IsFine (orphan_outcome (schema_in r.addr.type_name ms) m)) (members [] r.records)
  orphan_fine n r e = place_fine n (Some (an_orphan r)) e (orphan_looked_at names resources planned.places n r planned.in_order e)

  -- the actions, place by place
  pub actions_are : actions ≡ flat_map (λ n. place_actions ms resources variables names shapes resolved_names n (slice_get (numbered names resources) n)) planned.places
  actions_are =
      let made : flat_map instance_actions (instances ms resources variables names shapes resolved_names planned.places) ≡ actions = ap (λ (p : PlannedView). p.actions) is_planned in
      sym made ∙ listed-actions ms resources variables names shapes resolved_names planned.places
