-- What a worker reads of the actions before one.
use Rattle.std.specs.Prelude.{◌≡◌, ℕ, List}
use Rattle.tf_walk_workers.specs.SeenResult.{Shows}
use Rattle.tf_walk_workers.specs.declared.before.Before.{Before}
use Rattle.tf_config_data.specs.Names.{NameView}
use Rattle.tf_graph.specs.Digraph.{predecessors_of}
use Rattle.tf_config_names.specs.Table.{names_in}
use Rattle.tf_plan_data.specs.Plan.{PlanView}
use Rattle.tf_plan_data.specs.declared.plan.Plan.{Plan}
use Rattle.tf_provider_protocol.specs.Meaning.{Meaning}

-- All actions directly before one are good, and their results are read with these names and with the prior state and
-- the actions of this plan.
pub record AreSeen {N : Type 0} (ms : List Meaning) (walk : PlanView) (plan : Plan) (names : List NameView) (n : ℕ) (b : Before N) : Type 0 where
  pub named : names_in b.names.now ≡ names
  pub prior : b.prior.now ≡ plan.prior
  pub actions : b.actions.now ≡ plan.actions.items
  pub shows : Shows ms walk (predecessors_of plan.order n) b
