-- What is known of one worker's hints.
use Rattle.std.specs.Prelude.{ℕ}

-- The capacity for hints, and the number of occupied places. A pop never raises that number, and a pop that takes one
-- of several hints lowers it. A stolen hint leaves its place occupied until the hints after it are popped.
pub record HintStock : Type 0 where
  pub room : ℕ
  pub height : ℕ
