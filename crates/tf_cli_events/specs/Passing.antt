-- What is known of what was written to a writer that may write events in place of text.
use Rattle.std.specs.Prelude.{ℕ, Bool, List, Option, None, if◌then◌else◌}

-- nothing is known if it writes events; otherwise it has what the wrapped writer has
abbrev pub known_contents : Bool → Option (List ℕ) → Option (List ℕ)
known_contents has_events held = if has_events then None else held
