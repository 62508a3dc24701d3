-- What the reader of literals finds, without pointers.
use Rattle.std.specs.Prelude.{◌≡◌, ◌<◌, ◌≤◌, ℕ, Bool, List, length, string_bytes}
use Rattle.tf_expr_template.specs.Literal.{Piece, stands, opens, closes, wrong, piece, Literal}
use Rattle.tf_expr_template.specs.declared.literal.LiteralEnd.{LiteralEnd}
use Rattle.tf_expr_template.specs.declared.literal.LiteralEnd.TheVariants.{Opens, Closes, Wrong}
use Rattle.tf_expr_template.specs.declared.literal.LiteralStep.{LiteralStep}
use Rattle.tf_expr_template.specs.declared.literal.LiteralStep.TheVariants.{Stands, Ends}
use Rattle.tf_expr_template.specs.declared.literal.Stretch.{Stretch}

abbrev pub end_of : LiteralEnd → Piece
end_of (Opens rest) = opens rest.now
end_of (Closes rest) = closes rest.now
end_of Wrong = wrong

abbrev pub step_of : LiteralStep → Piece
step_of (Stands text rest) = stands text.now rest.now
step_of (Ends end) = end_of end

-- what follows the end is shorter than n, or no longer than n if the template ends
abbrev pub EndsWithin : ℕ → LiteralEnd → Type 0
EndsWithin n (Opens rest) = length rest.now < n
EndsWithin n (Closes rest) = length rest.now ≤ n
EndsWithin n Wrong = Unit {0}

-- what follows the text is shorter than n
abbrev pub IsShorter : ℕ → LiteralStep → Type 0
IsShorter n (Stands text rest) = length rest.now < n
IsShorter n (Ends end) = EndsWithin n end

-- a stretch of literal text, up to the first piece that isn't text
abbrev pub IsStretch : Bool → List ℕ → Stretch → Type 0
IsStretch quoted s r = (p : List ℕ) × Literal quoted (string_bytes r.text) s p × (piece quoted p ≡ end_of r.end)
