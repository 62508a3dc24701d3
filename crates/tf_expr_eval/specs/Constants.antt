-- Environments of constants.
use Rattle.std.specs.Prelude.{ℕ, ◌&&◌, if◌then◌else◌, List, [], ◌∷◌, map as each, string_bytes, Ok, Err}
use Rattle.std.specs.Str.{bytes_eq}
use Rattle.tf_value_data.specs.Tree.{Tree, tree_of}
use Rattle.tf_expr_syntax.specs.declared.fault.EvalFault.TheVariants.{Missing}
use Rattle.tf_expr_eval.specs.Environment.{Environment}
use Rattle.tf_expr_eval.specs.declared.constants.Constant.{Constant}
use Rattle.tf_expr_eval.specs.declared.constants.Constants.{Constants}

-- a reference's two names, and its value
pub record ConstantView : Type 0 where
  pub first : List ℕ
  pub name : List ℕ
  pub value : Tree

abbrev pub constant_of : Constant → ConstantView
constant_of c = record { first = string_bytes c.reference.first; name = string_bytes c.reference.name; value = tree_of c.value }

abbrev pub constants_of : Constants → List ConstantView
constants_of s = each constant_of s.constants.items

-- A reference has the value of its first constant, and any other reference is missing.
abbrev pub constant_in : List ConstantView → Environment
constant_in [] first name = Err Missing
constant_in (c ∷ cs) first name = if bytes_eq c.first first && bytes_eq c.name name then Ok c.value else constant_in cs first name
