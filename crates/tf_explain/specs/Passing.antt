-- What a write to a writer that explains does to the writer that it wraps.
use Rattle.std.specs.Prelude.{ℕ, Bool, List, ◌++◌, take, Option, None, Result, MatchResult, if◌then◌else◌}
use Rattle.std.specs.Io.KnownBytes.{Appends, Keeps}

-- what is known of what was written to a writer that explains, or that doesn't, by what the wrapped writer has
abbrev pub known_contents : Bool → Option (List ℕ) → Option (List ℕ)
known_contents explains held = if explains then None else held

-- something was added, perhaps nothing
abbrev pub Adds : Option (List ℕ) → Option (List ℕ) → Type 0
Adds old new = (added : List ℕ) × Appends old new added

-- The bytes that were taken were passed on, and then something was added, perhaps nothing. If the write failed, nothing was
-- written.
abbrev pub PassesOn : {E : Type 0} → Option (List ℕ) → Option (List ℕ) → Result ℕ E → List ℕ → Type 0
PassesOn old new r buf = MatchResult r (λ n. (added : List ℕ) × Appends old new (take n buf ++ added)) (λ _. Keeps old new)
