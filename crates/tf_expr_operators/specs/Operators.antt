-- The results of operators.
use Rattle.std.specs.Prelude.{Bool, not, ◌&&◌, ◌||◌, ℤ, ◌+ℤ◌, ◌-ℤ◌, ◌*ℤ◌, neg_ℤ, int_lt, int_le, if◌then◌else◌, Ok, Err}
use Rattle.tf_value_data.specs.Tree.{Tree, boolean, whole, unknown, same}
use Rattle.tf_value_data.specs.Known.{known}
use Rattle.tf_expr_syntax.specs.declared.operator.Operator.{Operator}
use Rattle.tf_expr_syntax.specs.declared.operator.Operator.TheVariants.{Or, And, Equal, NotEqual, Greater, GreaterOrEqual, Less, LessOrEqual, Add, Subtract, Multiply}
use Rattle.tf_expr_syntax.specs.declared.tree.Prefix.{Prefix}
use Rattle.tf_expr_syntax.specs.declared.tree.Prefix.TheVariants.{Not, Negate}
use Rattle.tf_expr_syntax.specs.declared.fault.EvalFault.TheVariants.{WrongKind}
use Rattle.tf_expr_operators.specs.Answer.{Answer, whole_value}

-- `!` takes a truth value; an unknown one gives an unknown one.
abbrev pub not_value : Tree → Answer
not_value unknown = Ok unknown
not_value (boolean b) = Ok (boolean (not b))
not_value _ = Err WrongKind

-- `-` before its operand takes a whole number; an unknown one gives an unknown one.
abbrev pub negate_value : Tree → Answer
negate_value unknown = Ok unknown
negate_value (whole z) = whole_value (neg_ℤ z)
negate_value _ = Err WrongKind

-- the result of a prefix operator
abbrev pub unary_value : Prefix → Tree → Answer
unary_value Not t = not_value t
unary_value Negate t = negate_value t

-- Of the operators other than `==` and `!=`, `||` and `&&` take truth values.
abbrev pub truths_value : Operator → Bool → Bool → Answer
truths_value Or b c = Ok (boolean (b || c))
truths_value And b c = Ok (boolean (b && c))
truths_value _ b c = Err WrongKind

-- Of the operators other than `==` and `!=`, the comparisons and arithmetic take whole numbers.
abbrev pub wholes_value : Operator → ℤ → ℤ → Answer
wholes_value Greater y z = Ok (boolean (int_lt z y))
wholes_value GreaterOrEqual y z = Ok (boolean (int_le z y))
wholes_value Less y z = Ok (boolean (int_lt y z))
wholes_value LessOrEqual y z = Ok (boolean (int_le y z))
wholes_value Add y z = whole_value (y +ℤ z)
wholes_value Subtract y z = whole_value (y -ℤ z)
wholes_value Multiply y z = whole_value (y *ℤ z)
wholes_value _ y z = Err WrongKind

-- Both operands must be of the kind that the operator takes. If one is unknown, so is the result.
abbrev pub scalars_value : Operator → Tree → Tree → Answer
scalars_value op unknown u = Ok unknown
scalars_value op t unknown = Ok unknown
scalars_value op (boolean b) (boolean c) = truths_value op b c
scalars_value op (whole y) (whole z) = wholes_value op y z
scalars_value op _ _ = Err WrongKind

-- `==` takes values of any kinds. They are equal if kind and value are. If a part of an operand is unknown, so is the
-- result.
abbrev pub equal_value : Tree → Tree → Answer
equal_value t u = if known t && known u then Ok (boolean (same t u)) else Ok unknown

-- `!=` takes values of any kinds, like `==`.
abbrev pub unequal_value : Tree → Tree → Answer
unequal_value t u = if known t && known u then Ok (boolean (not (same t u))) else Ok unknown

-- the result of a binary operator
abbrev pub binary_value : Operator → Tree → Tree → Answer
binary_value Equal t u = equal_value t u
binary_value NotEqual t u = unequal_value t u
binary_value op t u = scalars_value op t u
