-- The actions and outputs that a report excuses.
use Rattle.std.specs.Prelude.{ℕ, ◌==◌, List, [], ◌∷◌, Option, Some, None, if◌then◌else◌}
use Rattle.tf_walk_action.specs.declared.excuse.Excuse.{Excuse}
use Rattle.tf_walk_action.specs.declared.excuse.Excuse.TheVariants.{Before, During, Left, Output}

-- why an action was excused: memory ran out before its call or during it, or a stop left it
pub data Moment : Type 0 where
  before_call : Moment
  during_call : Moment
  by_stop : Moment

-- the moment at which an excuse excuses an action, if the excuse names the action
abbrev pub moment_in : Excuse → ℕ → Option Moment
moment_in (Before a) n = if a == n then Some before_call else None
moment_in (During a) n = if a == n then Some during_call else None
moment_in (Left a) n = if a == n then Some by_stop else None
moment_in (Output o) n = None

abbrev pub or_else : {A : Type 0} → Option A → Option A → Option A
or_else None other = other
or_else (Some a) other = Some a

-- the moment at which a list of excuses excuses an action, if one of them names the action
abbrev pub excuse_of : List Excuse → ℕ → Option Moment
excuse_of [] n = None
excuse_of (e ∷ es) n = or_else (moment_in e n) (excuse_of es n)
