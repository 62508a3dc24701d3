-- Actions and refusals for a configuration and a prior state.
use Rattle.std.specs.Prelude.{◌≡◌, ℕ, List, [], ◌++◌, map}
use Rattle.std.specs.List.{flat_map}
use Rattle.tf_plan_data.specs.Action.{ActionView, action_of}
use Rattle.tf_plan_order.specs.AddressOrder.{AreInAddressOrder}
use Rattle.tf_config_data.specs.Names.{NameView}
use Rattle.tf_plan_decision.specs.Deciding.{DecidedView, instance_actions, instance_refusals}
use Rattle.tf_plan_decision.specs.Stage.{deciding}
use Rattle.tf_plan_decision.specs.Whole.{instances}
use Rattle.tf_expand_keys.specs.InstanceKeys.{InstanceKeysView}
use Rattle.tf_expand_keys.specs.Stages.{expansion}
use Rattle.tf_expand_keys.specs.Resolved.{ResolvedView, AreResolvedNames}
use Rattle.tf_expand_keys.specs.Expanding.{AreExpanded}
use Rattle.tf_plan_planner.specs.Outputs.{output_refusals}
use Rattle.tf_plan_planner.specs.Told.{instance_told}
use Rattle.tf_plan_planner.specs.declared.deciding.PlannedInstances.{PlannedInstances}
use Rattle.tf_provider_protocol.specs.Meaning.{Meaning}
use Rattle.tf_config_refusal.specs.Refusal.{RefusalView, refusal_of}
use Rattle.tf_plan_order.specs.ResourceIndex.{numbered}
use Rattle.tf_state_data.specs.Resource.{ResourceView}
use Rattle.tf_expr_syntax.specs.ExprTree as expr
use Rattle.tf_value_data.specs.Tree.{Entries}

-- the planned actions, and all refusals
pub record PlannedView : Type 0 where
  pub actions : List ActionView
  pub refusals : List RefusalView

-- these actions, and no refusals
abbrev pub unrefused : List ActionView → PlannedView
unrefused actions = record { actions = actions; refusals = [] }

-- The instances of each resource are those of the expansion, by its resolved names, and there are at most as many as
-- are allowed.
pub record AreInstances (variables : Entries) (names : List NameView) (shapes : ℕ → InstanceKeysView) : Type 0 where
  pub resolved_names : ℕ → ResolvedView
  pub stand : AreResolvedNames expansion variables names resolved_names
  pub expanded : AreExpanded variables names resolved_names shapes

-- decided actions and refusals, followed by the refusals of outputs
abbrev pub with_outputs : Entries → List NameView → (ℕ → ResolvedView) → expr.Entries → DecidedView → PlannedView
with_outputs variables names resolved_names outputs d =
    record { actions = d.actions; refusals = map instance_told d.refusals ++ output_refusals variables names resolved_names outputs }

-- Actions and refusals for these instances and the resources of a state, by the resolved names of the plan's stage. With
-- the resources of both in address order, and the instances of each in the order of their keys, the actions are the
-- steps of each instance, one instance after another. The refusals are the fault of each instance that is refused, one
-- instance after another, and then those of outputs.
pub record IsPlanned (ms : List Meaning) (resources : List ResourceView) (variables : Entries) (names : List NameView) (outputs : expr.Entries) (shapes : ℕ → InstanceKeysView) (planned : PlannedView) : Type 0 where
  pub places : List ℕ
  pub in_order : AreInAddressOrder (numbered names resources) places
  pub resolved_names : ℕ → ResolvedView
  pub stand : AreResolvedNames (deciding ms resources shapes) variables names resolved_names
  pub actions : planned.actions ≡ flat_map instance_actions (instances ms resources variables names shapes resolved_names places)
  pub refusals : planned.refusals ≡ map instance_told (flat_map instance_refusals (instances ms resources variables names shapes resolved_names places)) ++ output_refusals variables names resolved_names outputs

-- planned instances as plain data
abbrev pub planned_of : PlannedInstances → PlannedView
planned_of p = record { actions = map action_of p.actions.items; refusals = map refusal_of p.refusals.items }
