-- Ends of reading files.
use Rattle.std.proofs.Common.{◌≡◌, ℕ, List, Result, sym, subst}
use Rattle.std.specs.Prelude.{Err, Ok, None, IfErr, IfSome, IsErrAnd}
use Rattle.std.specs.Process.{exit_status}
use Rattle.std.specs.declared.io.Error.{Error}
use Rattle.std.specs.declared.process.ExitCode.{ExitCode}
use Rattle.tf_cli_files.specs.Program.{IsFailure, MayFailReading}
use Rattle.tf_cli_files.specs.declared.ending.Ending.{Ending}

-- what holds anyway holds of each error
pub of_each_error : {A B : Type 0} {P : B → Type 0} (result : Result A B) → ((b : B) → P b) → IfErr result P
of_each_error (Ok a) all = tt
of_each_error (Err b) all = all b

-- an end that is made of a status has no cause
pub without_cause : {A X : Type 0} (Reads : List ℕ → Result X Error → Type 0) (status : ExitCode) (result : Result A Ending) → IsFailure status
    → IsErrAnd result (λ ending. (ending.status ≡ status) × (ending.cause ≡ None)) → IfErr result (MayFailReading Reads)
without_cause Reads status (Ok a) failure gives = tt
without_cause Reads status (Err ending) failure gives = (
  subst (λ s. exit_status s ≡ 1) (sym gives.0) failure,
  subst (λ cause. IfSome cause (λ error. (name : List ℕ) × Reads name (Err error))) (sym gives.1) tt,
)
