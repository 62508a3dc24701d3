-- The faults of an evaluation.
use Rattle.std.specs.Prelude.{ℕ, List, codes}
use Rattle.tf_expr_syntax.specs.declared.fault.EvalFault.{EvalFault}
use Rattle.tf_expr_syntax.specs.declared.fault.EvalFault.TheVariants.{Overflow, WrongKind, Missing, Arity, TooLarge, OutOfMemory}

-- the name that refusals and diagnostics print
abbrev pub eval_fault_name : EvalFault → List ℕ
eval_fault_name Overflow = codes "Overflow"
eval_fault_name WrongKind = codes "WrongKind"
eval_fault_name Missing = codes "Missing"
eval_fault_name Arity = codes "Arity"
eval_fault_name TooLarge = codes "TooLarge"
eval_fault_name OutOfMemory = codes "OutOfMemory"
