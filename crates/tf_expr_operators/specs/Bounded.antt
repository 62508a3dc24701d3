-- Values within the limits.
use Rattle.std.specs.Prelude.{◌≡◌, Result, Ok, Err, ⊤}
use Rattle.tf_value_data.specs.Tree.{Tree, tree_of}
use Rattle.tf_expr_operators.specs.declared.bounded.Bounded.{Bounded}
use Rattle.tf_expr_syntax.specs.declared.fault.EvalFault.{EvalFault}
use Rattle.tf_expr_syntax.specs.declared.fault.EvalFault.TheVariants.{OutOfMemory}
use Rattle.tf_expr_operators.specs.Answer.{Answer}

-- the tree of the value
abbrev pub bounded_tree : Bounded → Tree
bounded_tree b = tree_of b.value

-- A call returns exactly this answer: the value, or the same fault.
abbrev pub AnswersBounded : Answer → Result Bounded EvalFault → Type 0
AnswersBounded a (Ok b) = a ≡ Ok (bounded_tree b)
AnswersBounded a (Err e) = a ≡ Err e

-- A call returns exactly this answer, or memory ran out.
abbrev pub GivesBounded : Answer → Result Bounded EvalFault → Type 0
GivesBounded a (Ok b) = a ≡ Ok (bounded_tree b)
GivesBounded a (Err OutOfMemory) = ⊤
GivesBounded a (Err e) = a ≡ Err e
