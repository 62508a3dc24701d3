-- What the workers of a walk return, on any thread.
use Rattle.std.specs.Prelude.{◌≡◌, ℕ, []}
use denote.Param.Members.{Shared}
use Rattle.atomic_table.specs.Seated.{TableId}
use Rattle.tf_walk_workers.specs.Calls.{HasParts}
use Rattle.tf_walk_workers.specs.declared.shared.WorkerEnd.{WorkerEnd}
use Rattle.tf_walk_workers.specs.declared.shared.WorkerState.{WorkerState}

-- A seat at these claims, and this number of parts of this tally, which keep and report no call.
pub record IsWorkerEnd (claims tally : TableId) (count : ℕ) (end : WorkerEnd) : Type 0 where
  pub seat : end.seat.table ≡ claims
  pub part : HasParts tally count [] [] end.part

-- A worker has a seat at these claims, and one part of this tally, which keeps and reports no call.
pub record IsWorkerState {N : Type 0} (claims tally : TableId) (worker_state : WorkerState N) : Type 0 where
  pub seat : worker_state.seat.table ≡ claims
  pub part : HasParts tally 1 [] [] worker_state.part

-- A worker that meets its precondition returns something like this.
pub record Leaves {F D S : Type 0} (g : Shared F (D × Unit {0}) S) (IsLeft : S → Type 0) (work : F) : Type 0 where
  pub leaves : (worker_state : D) (end : S) → g.post work (worker_state, tt) end → IsLeft end
