-- That what workers share belongs to one walk.
use Rattle.std.specs.Prelude.{◌≡◌, ℕ, List, map}
use Rattle.tf_plan_data.specs.Action.{action_of}
use Rattle.tf_config_data.specs.Config.{config_of}
use Rattle.tf_config_data.specs.Names.{NameView, names_of}
use Rattle.tf_plan_data.specs.Fits.{FitsTogether}
use Rattle.tf_plan_data.specs.Plan.{PlanView, plan_of}
use Rattle.tf_plan_data.specs.Served.{AreServed}
use Rattle.tf_plan_data.specs.declared.plan.Plan.{Plan}
use Rattle.tf_provider_protocol.specs.Meaning.{Meaning}

-- All that a worker reads belongs to the walk of this plan and of these providers' meanings. The plan's parts fit
-- together, the names are those of its configuration, the providers have the types of its actions, and each action
-- has a cell.
pub record IsOfWalk (plan : PlanView) (ms : List Meaning) (p : Plan) (names : List NameView) (cells : ℕ) (providers : List Meaning) : Type 0 where
  pub fits : FitsTogether p
  pub named : names ≡ names_of (config_of p.config)
  pub served : AreServed providers (map action_of p.actions.items)
  pub meanings : ms ≡ providers
  pub plan_is : plan ≡ plan_of p
  pub counted : cells ≡ p.order.nodes
