-- ranges of bytes of a text
use Rattle.std.specs.Prelude.{ℕ, List, ◌≤◌, length}
use Rattle.tf_explain.specs.declared.span.Span.{Span}

-- the range ends within the text, and not before it starts
abbrev pub IsIn : List ℕ → Span → Type 0
IsIn text span = (span.start ≤ span.end) × (span.end ≤ length text)
