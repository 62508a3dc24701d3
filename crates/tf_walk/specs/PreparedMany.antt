-- What a walk with several workers begins with.
use Rattle.std.specs.Prelude.{◌≡◌, ◌+◌, ℕ, All, [], None, replicate, vec_len}
use Rattle.atomic_table.specs.Seated.{TableId}
use Rattle.tf_config_names.specs.Table.{names_in}
use Rattle.tf_plan_data.specs.Plan.{plan_names, plan_of}
use Rattle.tf_plan_data.specs.declared.plan.Plan.{Plan}
use Rattle.tf_walk_report.specs.Reserved.{AreReserved}
use Rattle.tf_walk_workers.specs.Calls.{HasParts}
use Rattle.tf_walk_workers.specs.Sharing.{IsWorkerState}
use Rattle.tf_walk.specs.declared.prepared_many.PreparedWalk.{PreparedWalk}

-- The names are the configuration's, the claims and the journal are over the plan's order, each worker of the team has a seat of
-- these claims and a part of this tally, the journal is empty and has a part too, each
-- action has an empty cell and an empty place in the list, and the report's parts are reserved.
pub record IsPrepared {N : Type 0} (table : TableId) (team : ℕ) (plan : Plan) (p : PreparedWalk N) : Type 0 where
  pub names : names_in p.names ≡ plan_names (plan_of plan)
  pub claims : p.claims.graph ≡ plan.order
  pub worker_state : IsWorkerState p.claims.table table p.team.worker_state
  pub others : All (IsWorkerState p.claims.table table) p.team.others.items
  pub counted : vec_len p.team.others + 1 ≡ team
  pub journal : p.journal.graph ≡ plan.order
  pub empty : p.journal.entries ≡ []
  pub keeper : HasParts table 1 [] [] p.keeper
  pub cells : p.result_cells.cells ≡ plan.order.nodes
  pub results : p.result_cells.results.items ≡ replicate plan.order.nodes None
  pub buffers : AreReserved plan p.buffers
