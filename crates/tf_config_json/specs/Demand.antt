-- What the format of a configuration demands, and how a demand fails.
use Rattle.std.specs.Prelude.{◌≡◌, ℕ, Bool, List, IsTrue, MatchResult, Result, false}
use Rattle.tf_config_address.specs.Name.{is_name}
use Rattle.tf_expr_json.specs.Demand as expr
use Rattle.tf_expr_json.specs.declared.fault.ExprCause.{ExprCause}
use Rattle.tf_config_refusal.specs.Check.{Check, AllMet, IsFirst}
use Rattle.tf_config_refusal.specs.declared.code.Code.TheVariants as code
use Rattle.tf_expr_json.specs.Refusing.{way_of}
use Rattle.tf_config_refusal.specs.Refusal.{bare, RefusalView, no_memory, workers, fault, refusal_of, Way}
use Rattle.tf_config_json.specs.Words.{is_type_name}
use Rattle.tf_config_refusal.specs.declared.refusal.Refusal.{Refusal}

pub data Demand : Type 0 where
  -- nothing is allowed at the place
  nothing_fits : Demand
  -- a condition on the value at the place
  holds : Bool → Demand
  -- a demand on a part of an expression
  of_expression : expr.Demand → Demand

-- the checks, in walk order
abbrev pub Checks : Type 0
Checks = List (Check Demand)

-- the text is a name
abbrev pub a_name : List ℕ → Demand
a_name text = holds (is_name text)

-- the text is a name that may be a resource type
abbrev pub a_type_name : List ℕ → Demand
a_type_name text = holds (is_type_name text)

abbrev pub IsMet : Demand → Type 0
IsMet nothing_fits = ⊥
IsMet (holds condition) = IsTrue condition
IsMet (of_expression demand) = expr.IsMet demand

-- all checks are met
abbrev pub AreMet : Checks → Type 0
AreMet = AllMet IsMet

-- 2, BadShape
abbrev pub bad_shape : Way
bad_shape = (code.BadShape, bare)

-- a demand fails in this way
abbrev pub Fails : Demand → Way → Type 0
Fails nothing_fits way = way ≡ bad_shape
Fails (holds condition) way = (condition ≡ false) × (way ≡ bad_shape)
Fails (of_expression demand) way = (cause : ExprCause) × expr.Fails demand cause × (way ≡ way_of cause)

-- The refusal is the first fault of some checks, or out of memory.
abbrev pub RefusesBy : {D : Type 0} → (D → Type 0) → (D → Way → Type 0) → List (Check D) → RefusalView → Type 0
RefusesBy IsMet Fails checks no_memory = Unit {0}
RefusesBy IsMet Fails checks workers = ⊥
RefusesBy IsMet Fails checks (fault code place detail) = IsFirst IsMet Fails place (code, detail) checks

-- the refusal is the first fault of checks of the format, or out of memory
abbrev pub Refuses : Checks → RefusalView → Type 0
Refuses = RefusesBy IsMet Fails

-- A result that is fine if `Holds` does. An error is the first fault of some checks.
abbrev pub FineOrRefuses : {T : Type 0} → Type 0 → Checks → Result T Refusal → Type 0
FineOrRefuses Holds checks answer = MatchResult answer (λ _. Holds) (λ refusal. Refuses checks (refusal_of refusal))

-- A result that only judges: all checks are met, or the error is the first fault.
abbrev pub Judges : {T : Type 0} → Checks → Result T Refusal → Type 0
Judges checks = FineOrRefuses (AreMet checks) checks

-- a fault at the place, or memory ran out for the report
abbrev pub TellsAt : List ℕ → Way → RefusalView → Type 0
TellsAt place way no_memory = Unit {0}
TellsAt place way workers = ⊥
TellsAt place way (fault code place' detail) = (place' ≡ place) × ((code, detail) ≡ way)
