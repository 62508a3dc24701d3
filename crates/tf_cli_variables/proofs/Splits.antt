-- A text is split at its first `=`.
use Rattle.std.proofs.Common.{◌≡◌, length, take, Option, arith, sym, ap, ◌∙◌}
use Rattle.std.proofs.lemmas.Str.Pattern.{IsSplitOnceResult, split_once_first}
use Rattle.std.specs.Borrow.{Bor}
use Rattle.std.proofs.Math.Seq.{take-length}
use Rattle.tf_cli_variables.specs.Values.{IsSplit, Text, name_in, place_of_equals}

pub split_at_equals : (text : Text) (parts : Option (Bor Text × Bor Text)) → IsSplitOnceResult 61 text parts → IsSplit text parts
split_at_equals text parts is = split_once_first 61 text parts is (omega arith)

-- without an `=` the name is the whole text
pub whole_name : (text : Text) → place_of_equals text ≡ length text → text ≡ name_in text
whole_name text is = sym (ap (λ n. take n text) is ∙ take-length text)
