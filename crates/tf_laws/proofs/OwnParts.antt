-- A plan by its own parts.
use Rattle.std.proofs.Common.{◌≡◌, ℕ, Bool, List, sym, subst}
use Rattle.tf_config_data.specs.Config.{ConfigView}
use Rattle.tf_config_data.specs.Names.{names_of}
use Rattle.tf_expand_keys.specs.InstanceKeys.{InstanceKeysView}
use Rattle.tf_graph.specs.Digraph.{Digraph}
use Rattle.tf_plan_planner.specs.Plan.{IsPlan, IsPlannedFrom}
use Rattle.tf_plan_data.specs.Action.{ActionView}
use Rattle.tf_plan_data.specs.Plan.{PlanView, plan_names}
use Rattle.tf_provider_protocol.specs.Meaning.{Meaning}
use Rattle.tf_state_data.specs.Resource.{ResourceView}
use Rattle.tf_state_data.specs.State.{StateView}
use Rattle.tf_value_data.specs.Tree.{Entries}

-- what is planned of a configuration is planned of one that it is equal to
pub planned_of : (ms : List Meaning) (resources : List ResourceView) (valued variables : Entries) (configured config : ConfigView) (needs : ℕ → ℕ → Bool) (shapes : ℕ → InstanceKeysView) (actions : List ActionView) (late : ℕ → Bool) (order : Digraph)
    → variables ≡ valued → config ≡ configured
    → IsPlannedFrom ms resources valued (names_of configured) configured.outputs needs shapes actions late order → IsPlannedFrom ms resources variables (names_of config) config.outputs needs shapes actions late order
planned_of ms resources valued variables configured config needs shapes actions late order same alike h =
    subst (λ (v : Entries). IsPlannedFrom ms resources v (names_of config) config.outputs needs shapes actions late order) (sym same)
    (subst (λ (c : ConfigView). IsPlannedFrom ms resources valued (names_of c) c.outputs needs shapes actions late order) (sym alike) h)

pub plan_from : (ms : List Meaning) (config : ConfigView) (variables : Entries) (prior : StateView) (plan : PlanView) → IsPlan ms config variables prior plan
    → IsPlannedFrom ms plan.prior.resources plan.variables (plan_names plan) plan.config.outputs plan.needs plan.shapes plan.actions plan.late plan.order
plan_from ms config variables prior plan is =
    subst (λ (s : StateView). IsPlannedFrom ms s.resources plan.variables (plan_names plan) plan.config.outputs plan.needs plan.shapes plan.actions plan.late plan.order) (sym is.prior)
    (planned_of ms prior.resources variables plan.variables config plan.config plan.needs plan.shapes plan.actions plan.late plan.order is.variables is.config is.planned)
