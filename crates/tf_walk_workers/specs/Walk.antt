-- What the workers of a walk share.
use Rattle.std.specs.Prelude.{◌≡◌, ℕ, List}
use Rattle.atomic_table.specs.Seated.{TableId}
use Rattle.tf_config_data.specs.Names.{NameView}
use Rattle.tf_graph.specs.Digraph.{Digraph}
use Rattle.tf_plan_data.specs.Plan.{PlanView}
use Rattle.tf_plan_data.specs.declared.plan.Plan.{Plan}
use Rattle.tf_provider_protocol.specs.Meaning.{Meaning}
use Rattle.tf_walk_workers.specs.Shared.{IsOfWalk}

-- All that a worker reads belongs to one walk, the claims are on its actions, and the tally is that of its calls, and
-- the flag that stops it has the mark of its flag.
pub record IsOneWalk (plan : PlanView) (ms : List Meaning) (p : Plan) (names : List NameView) (cells : ℕ) (claimed : Digraph) (tallied table : TableId) (stop mark : ℕ) (providers : List Meaning) : Type 0 where
  pub read : IsOfWalk plan ms p names cells providers
  pub claims : claimed ≡ p.order
  pub tally : tallied ≡ table
  pub flag : stop ≡ mark
