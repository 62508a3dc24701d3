-- What is found.
use Rattle.std.proofs.Common.{Err}
use Rattle.tf_expr_operators.specs.Answer.{Answer, Gives}
use Rattle.tf_expr_operators.specs.Found.{Finds}
use Rattle.tf_expr_syntax.specs.declared.fault.EvalFault.{EvalFault}
use Rattle.tf_expr_syntax.specs.declared.fault.EvalFault.TheVariants.{Overflow, WrongKind, Missing, Arity, TooLarge, OutOfMemory}

-- a fault that is given is found
pub found-fault : (a : Answer) (e : EvalFault) → Gives a (Err e) → Finds a (Err e)
found-fault a Overflow h = h
found-fault a WrongKind h = h
found-fault a Missing h = h
found-fault a Arity h = h
found-fault a TooLarge h = h
found-fault a OutOfMemory h = tt
