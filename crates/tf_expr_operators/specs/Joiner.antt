-- What a `Joiner` holds.
use Rattle.std.specs.Prelude.{◌≡◌, string_bytes, Ok, Err}
use Rattle.tf_value_data.specs.Tree.{text, unknown, Items}
use Rattle.tf_expr_syntax.specs.declared.fault.EvalFault.TheVariants.{WrongKind as wrong_kind, TooLarge as too_large}
use Rattle.tf_expr_operators.specs.declared.joining.Joiner.{Joiner}
use Rattle.tf_expr_operators.specs.declared.joining.Joined.{Joined}
use Rattle.tf_expr_operators.specs.declared.joining.Joined.TheVariants.{Text, TooLarge, WrongKind, Unknown}
use Rattle.tf_expr_operators.specs.Answer.{Answer}
use Rattle.tf_expr_operators.specs.Joining.{joined_value}

abbrev pub joined_so_far : Joined → Answer
joined_so_far (Text s) = Ok (text (string_bytes s))
joined_so_far TooLarge = Err too_large
joined_so_far WrongKind = Err wrong_kind
joined_so_far Unknown = Ok unknown

-- the result for the values so far
abbrev pub answer_so_far : Joiner → Answer
answer_so_far j = joined_so_far j.joined

-- The joiner holds the result for these values.
abbrev pub Joins : Joiner → Items → Type 0
Joins j ts = answer_so_far j ≡ joined_value ts
