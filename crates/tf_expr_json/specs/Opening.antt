-- The beginnings of interpolations and directives in a text.
use Rattle.std.specs.Prelude.{ℕ, ◌+◌, Bool, ◌&&◌, ◌||◌, ◌==◌, IsTrue, List, slice_index}

-- the two bytes `${` or `%{`
abbrev pub opens : ℕ → ℕ → Bool
opens first second = (first == 36 || first == 37) && (second == 123)

-- one of them is at this offset
abbrev pub OpensAt : List ℕ → ℕ → Type 0
OpensAt text offset = IsTrue (opens (slice_index text offset) (slice_index text (offset + 1)))

-- neither of them is in the text
abbrev pub IsPlain : List ℕ → Type 0
IsPlain text = (offset : ℕ) → ¬ OpensAt text offset
