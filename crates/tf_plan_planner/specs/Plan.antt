-- The plan of a configuration and a prior state.
use Rattle.std.specs.Prelude.{◌≡◌, ◌≤◌, ℕ, Bool, List, length}
use Rattle.tf_plan_data.specs.Action.{ActionView}
use Rattle.tf_config_data.specs.Config.{ConfigView}
use Rattle.tf_config_data.specs.Names.{NameView, names_of}
use Rattle.tf_expand_keys.specs.InstanceKeys.{InstanceKeysView}
use Rattle.tf_graph.specs.Digraph.{Digraph}
use Rattle.tf_plan_planner.specs.Ordered.{IsOrdered}
use Rattle.tf_plan_planner.specs.Planned.{AreInstances, IsPlanned, unrefused}
use Rattle.tf_plan_data.specs.Plan.{PlanView}
use Rattle.tf_provider_protocol.specs.Meaning.{Meaning}
use Rattle.tf_state_data.specs.Resource.{ResourceView}
use Rattle.tf_state_data.specs.State.{StateView}
use Rattle.tf_expr_syntax.specs.ExprTree as expr
use Rattle.tf_value_data.specs.Tree.{Entries}

-- the most actions that a plan may have
abbrev pub max_actions : ℕ
max_actions = 2000

-- The parts of a plan. The instances are those of the expansion. The actions are planned for them and the resources of
-- a state, with no refusals, and there are at most `max_actions`. `late` and `order` are those of these actions.
pub record IsPlannedFrom (ms : List Meaning) (resources : List ResourceView) (variables : Entries) (names : List NameView) (outputs : expr.Entries) (needs : ℕ → ℕ → Bool) (shapes : ℕ → InstanceKeysView) (actions : List ActionView) (late : ℕ → Bool) (order : Digraph) : Type 0 where
  pub instances : AreInstances variables names shapes
  pub planned : IsPlanned ms resources variables names outputs shapes (unrefused actions)
  pub few : length actions ≤ max_actions
  pub ordered : IsOrdered names resources needs late actions order

-- The plan of a configuration, whose variables have these values, from a prior state.
pub record IsPlan (ms : List Meaning) (configured : ConfigView) (valued : Entries) (given : StateView) (plan : PlanView) : Type 0 where
  pub prior : plan.prior ≡ given
  pub config : plan.config ≡ configured
  pub variables : plan.variables ≡ valued
  pub planned : IsPlannedFrom ms given.resources valued (names_of configured) configured.outputs plan.needs plan.shapes plan.actions plan.late plan.order
