-- What each worker has for itself.
use Rattle.std.specs.Prelude.{◌≡◌, List, [], IfSome, IsSomeAnd}
use Rattle.atomic_table.specs.Seated.{TableId}
use Rattle.tf_claim.specs.Claims.{Shared}
use Rattle.tf_config_data.specs.Names.{NameView}
use Rattle.tf_plan_data.specs.Plan.{PlanView}
use Rattle.tf_plan_data.specs.declared.plan.Plan.{Plan}
use Rattle.tf_provider_protocol.specs.Meaning.{Meaning}
use Rattle.tf_walk_workers.specs.Calls.{HasParts}
use Rattle.tf_walk_workers.specs.declared.worker.Position.{Position}
use Rattle.tf_walk_workers.specs.Memo.{IsTrueMemo}

-- A worker's seat is at the claims of its walk, its memo of the last request is true, and it has one part of the walk's tally,
-- which keeps and reports no call.
pub record IsPosition {N : Type 0} (ms : List Meaning) (walk : PlanView) (table : TableId) (plan : Plan) (names : List NameView) (claims : Shared) (position : Position N) : Type 0 where
  pub seat : position.seat.table ≡ claims.table
  pub memo : IfSome position.memo (IsTrueMemo ms walk plan names)
  pub part : IsSomeAnd position.part (HasParts table 1 [] [])
