-- The text of a scalar.
use Rattle.std.specs.Prelude.{ℕ, List, codes, if◌then◌else◌, Option, Some, None}
use Rattle.std.specs.Fmt.{signed_decimal}
use Rattle.tf_value_data.specs.Tree.{Tree, boolean, whole, text}

-- The text of a scalar: a text itself, a whole number in decimal, a truth value by its name. Null, lists, maps, sets
-- and unknown values have no such text.
abbrev pub scalar_text : Tree → Option (List ℕ)
scalar_text (boolean b) = Some (if b then codes "true" else codes "false")
scalar_text (whole z) = Some (signed_decimal z)
scalar_text (text s) = Some s
scalar_text _ = None
