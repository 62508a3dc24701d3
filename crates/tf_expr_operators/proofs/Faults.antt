-- Exact answers, and answers that memory may lack.
use Rattle.std.proofs.Common.{◌≡◌, Result, Ok, Err, subst}
use Rattle.tf_value_data.specs.declared.value.Value.{Value}
use Rattle.tf_expr_syntax.specs.declared.fault.EvalFault.{EvalFault}
use Rattle.tf_expr_syntax.specs.declared.fault.EvalFault.TheVariants.{Overflow, WrongKind, Missing, Arity, TooLarge, OutOfMemory}
use Rattle.tf_expr_operators.specs.Answer.{Answer, Answers, Gives}

-- a fault that an answer gives, by a fact of it unless it is want of memory
pub Gives-fault : (a : Answer) (e : EvalFault) → ((e ≡ OutOfMemory → ⊥) → a ≡ Err e) → Gives a (Err e)
Gives-fault a Overflow h = h (λ e. cc)
Gives-fault a WrongKind h = h (λ e. cc)
Gives-fault a Missing h = h (λ e. cc)
Gives-fault a Arity h = h (λ e. cc)
Gives-fault a TooLarge h = h (λ e. cc)
Gives-fault a OutOfMemory h = tt

-- where one answer's fault is another's
pub Gives-along : (a b : Answer) (e : EvalFault) → (a ≡ Err e → b ≡ Err e) → Gives a (Err e) → Gives b (Err e)
Gives-along a b Overflow h g = h g
Gives-along a b WrongKind h g = h g
Gives-along a b Missing h g = h g
Gives-along a b Arity h g = h g
Gives-along a b TooLarge h g = h g
Gives-along a b OutOfMemory h g = tt

-- an exact answer is one
pub Gives-answered : (a : Answer) (r : Result Value EvalFault) → Answers a r → Gives a r
Gives-answered a (Ok v) h = h
Gives-answered a (Err e) h = Gives-fault a e (λ n. h)

-- the same, of an equal answer
pub Gives-equal : (a b : Answer) (r : Result Value EvalFault) → a ≡ b → Answers a r → Gives b r
Gives-equal a b r e h = Gives-answered b r (subst (λ x. Answers x r) e h)
