-- The messages about a request that can't be made, or an output that can't be evaluated.
use Rattle.std.specs.Prelude.{ℕ, List, ◌++◌, codes}
use Rattle.tf_expr_syntax.specs.EvalFault.{eval_fault_name}
use Rattle.tf_expr_syntax.specs.declared.fault.EvalFault.{EvalFault}
use Rattle.tf_plan_object.specs.Instance.{InstanceFaultView, for_each_fault, argument_fault}
use Rattle.tf_plan_object.specs.declared.argument.ArgumentFault.{ArgumentFault}
use Rattle.tf_plan_object.specs.declared.argument.ArgumentFault.TheVariants.{Evaluation, BadArgument}

-- `Evaluate(KIND)`
abbrev pub evaluation_text : EvalFault → List ℕ
evaluation_text why = codes "Evaluate(" ++ eval_fault_name why ++ codes ")"

-- `Evaluate(KIND)`, or `BadArgument`
abbrev pub argument_text : ArgumentFault → List ℕ
argument_text (Evaluation why) = evaluation_text why
argument_text BadArgument = codes "BadArgument"

-- `NAME: Evaluate(KIND)` or `NAME: BadArgument`, with the name `for_each` if that has the fault
abbrev pub fault_message : InstanceFaultView → List ℕ
fault_message (for_each_fault why) = codes "for_each: " ++ evaluation_text why
fault_message (argument_fault named) = named.0 ++ codes ": " ++ argument_text named.1
