-- The end of a program if a file can't be read, or if memory ran out.
use Rattle.std.specs.Prelude.{◌≡◌, ◌≤◌, ℕ, List, [], ◌∷◌, ◌++◌, codes, Option, Some, None, Result, Ok, Err, IfOk, IfSome, MatchResult, Vec, option_map}
use Rattle.std.specs.Process.{exit_status}
use Rattle.std.specs.declared.process.ExitCode.{ExitCode}
use Rattle.tf_cli_lines.specs.Saved.{AppendsStart}
use Rattle.tf_cli_lines.specs.Lines.{refusal_line}
use Rattle.tf_config_refusal.specs.Refusal.{no_memory}
use Rattle.std.specs.declared.alloc.Global.{Global}
use Rattle.tf_cli_files.specs.Sources.{EachRead}
use Rattle.std.specs.declared.io.Error.{Error}
use Rattle.tf_cli_files.specs.declared.ending.Ending.{Ending}
use Rattle.tf_cli_options.specs.declared.words.VariableSource.{VariableSource}
use Rattle.tf_cli_variables.specs.Choice.{AreVariables}
use Rattle.tf_cli_variables.specs.declared.source.Source.{Source}

-- the status of a program that didn't do its work
abbrev pub IsFailure : ExitCode → Type 0
IsFailure status = exit_status status ≡ 1

-- `error: cannot read FILE`
abbrev pub unread_line : List ℕ → List ℕ
unread_line file = codes "error: cannot read " ++ (file ++ 10 ∷ [])

-- a program ends before its work, with status 1
abbrev pub Fails : Ending → Type 0
Fails ending = IsFailure ending.status

-- A program ends before its work, because a file of this name can't be read. The cause is the system's error.
abbrev pub FailsReading : {X : Type 0} → (List ℕ → Result X Error → Type 0) → List ℕ → Ending → Type 0
FailsReading Reads name ending = Fails ending × (error : Error) × (ending.cause ≡ Some error) × Reads name (Err error)

-- A program ends before its work. If there is a cause, it is the error of a file that can't be read.
abbrev pub MayFailReading : {X : Type 0} → (List ℕ → Result X Error → Type 0) → Ending → Type 0
MayFailReading Reads ending = Fails ending × IfSome ending.cause (λ error. (name : List ℕ) × Reads name (Err error))

-- Without a cause, a program ends before its work only after this file was read.
abbrev pub HasRead : {X : Type 0} → (List ℕ → Result X Error → Type 0) → List ℕ → Ending → Type 0
HasRead {X} Reads name ending = ending.cause ≡ None → (x : X) × Reads name (Ok x)

-- What was read of a file is the result. If it can't be read, the program ends with status 1, and the cause is the system's error.
abbrev pub GoesOn : {X : Type 0} → Result X Error → Result X Ending → Type 0
GoesOn (Ok x) result = result ≡ Ok x
GoesOn (Err error) result = MatchResult result (λ _. ⊥) (λ ending. Fails ending × ending.cause ≡ Some error)

-- if a file can't be read, that is printed, and nothing else is
abbrev pub PrintsUnread : {X E : Type 0} → Result X E → List ℕ → Option (List ℕ) → Option (List ℕ) → Type 0
PrintsUnread (Ok x) file old new = new ≡ old
PrintsUnread (Err error) file old new = AppendsStart old new (unread_line file)

-- A file that doesn't exist gives nothing, and an existing one was read.
abbrev pub ReadsOptional : {X E : Type 0} → (E → Type 0) → (List ℕ → Result X E → Type 0) → List ℕ → Option X → Type 0
ReadsOptional IsAbsent Reads name (Some bytes) = Reads name (Ok bytes)
ReadsOptional {X} {E} IsAbsent Reads name None = (error : E) × IsAbsent error × Reads name (Err error)

-- The input is the contents of the named files: of the configuration, and of the sources of the variables' values together.
pub record AreReads {E : Type 0} (Reads : List ℕ → Result (Vec ℕ Global) E → Type 0) (config_name : List ℕ) (names : List VariableSource) (config : Vec ℕ Global) (vars : Option (Vec ℕ Global)) : Type 0 where
  pub configuration : Reads config_name (Ok config)
  pub variables : (sources : List Source) × EachRead Reads names sources × AreVariables config.items sources (option_map (λ bytes. bytes.items) vars)

-- An end before the work: help, with status 0; a refusal or an unreadable file, with status 1; or an error.
abbrev pub IsEarly : {E : Type 0} → Result ExitCode E → Type 0
IsEarly answer = IfOk answer (λ status. exit_status status ≤ 1)

-- A program ends as its work does, except that out of memory gives status 1.
abbrev pub Ends : {E : Type 0} → (E → Type 0) → Result ExitCode E → Result ExitCode E → Type 0
Ends IsWant (Ok status) result = result ≡ Ok status
Ends IsWant (Err error) result =
    (IsWant error → MatchResult result IsFailure (λ _. ⊥)) × ((IsWant error → ⊥) → result ≡ Err error)

-- out of memory is printed as a refusal, and nothing else is printed at the end
abbrev pub PrintsEnd : {E : Type 0} → (E → Type 0) → Result ExitCode E → Option (List ℕ) → Option (List ℕ) → Type 0
PrintsEnd IsWant (Ok status) old new = new ≡ old
PrintsEnd IsWant (Err error) old new =
    (IsWant error → AppendsStart old new (refusal_line no_memory)) × ((IsWant error → ⊥) → new ≡ old)
