-- What follows the end of a stretch.
use Rattle.std.proofs.Common.{ℕ, ◌≤◌, arith}
use Rattle.tf_expr_template.specs.Steps.{EndsWithin}
use Rattle.tf_expr_template.specs.declared.literal.LiteralEnd.{LiteralEnd}
use Rattle.tf_expr_template.specs.declared.literal.LiteralEnd.TheVariants.{Opens, Closes, Wrong}

pub within_more : (end : LiteralEnd) (m n : ℕ) → m ≤ n → EndsWithin m end → EndsWithin n end
within_more (Opens rest) m n le h = omega arith
within_more (Closes rest) m n le h = omega arith
within_more Wrong m n le h = tt
