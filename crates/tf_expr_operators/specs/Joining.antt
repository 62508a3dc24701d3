-- The joined text of values.
use Rattle.std.specs.Prelude.{ℕ, List, [], codes, if◌then◌else◌, Option, Some, None, Ok, Err}
use Rattle.std.specs.Fmt.{signed_decimal, ◌++?◌}
use Rattle.tf_value_data.specs.Tree.{Tree, boolean, whole, text, Items, no_items, item, unknown}
use Rattle.tf_expr_syntax.specs.declared.fault.EvalFault.TheVariants.{WrongKind}
use Rattle.tf_expr_operators.specs.Answer.{Answer, limited, any_unknown}

-- The text of a scalar: a text itself, a whole number in decimal, a truth value by its name. Null, lists, maps and
-- sets have no such text.
abbrev pub text_of : Tree → Option (List ℕ)
text_of (boolean b) = Some (if b then codes "true" else codes "false")
text_of (whole z) = Some (signed_decimal z)
text_of (text s) = Some s
text_of _ = None

-- the texts of values, one after another; `None` if a value has no text
abbrev pub joined_text : Items → Option (List ℕ)
joined_text no_items = Some []
joined_text (item t ts) = text_of t ++? joined_text ts

-- the value of the text; a fault if a value was of a kind that has none
abbrev pub text_value : Option (List ℕ) → Answer
text_value None = Err WrongKind
text_value (Some s) = limited (text s)

-- A template's texts and the values of its interpolations, in order, are joined to a text. If a value is unknown, so
-- is the result.
abbrev pub joined_value : Items → Answer
joined_value ts = if any_unknown ts then Ok unknown else text_value (joined_text ts)
