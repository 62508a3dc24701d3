-- Each plan of a configuration is founded.
use Rattle.std.specs.Prelude.{◌≡◌, ℕ, false, List, map}
use Rattle.std.specs.List.Sorted.{IsStrictlySortedBy}
use Rattle.tf_config_address.specs.ResourceAddr.{addr_cmp}
use Rattle.tf_config_data.specs.Config.{ConfigView}
use Rattle.tf_plan_planner.specs.Plan.{IsPlan}
use Rattle.tf_plan_data.specs.Plan.{PlanView}
use Rattle.tf_provider_protocol.specs.Meaning.{Meaning}
use Rattle.tf_state.specs.Valid.{IsValid}
use Rattle.tf_state_data.specs.State.{StateView}
use Rattle.tf_value_data.specs.Tree.{Entries}
use Rattle.tf_laws.specs.Founded.{IsFounded}

-- A plan of a configuration from a valid prior state is founded, if no name needs itself and blocks are in address order.
abbrev pub PlansAreFounded : Type 0
PlansAreFounded =
    (ms : List Meaning) (config : ConfigView) (variables : Entries) (prior : StateView) (plan : PlanView)
    → IsPlan ms config variables prior plan → ((n : ℕ) → plan.needs n n ≡ false)
    → IsStrictlySortedBy addr_cmp (map (λ b. b.addr) config.blocks) → IsValid prior
    → IsFounded plan
