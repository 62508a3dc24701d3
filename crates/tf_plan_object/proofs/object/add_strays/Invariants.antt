-- the first fault so far, with those of the arguments that are left
use Rattle.std.proofs.Common.{◌≡◌, fold, option_map}
use Rattle.tf_expr_syntax.specs.ExprTree.{entries_view as arguments_view}
use Rattle.tf_plan_object.specs.Object.{named_fault_of}
use Rattle.tf_plan_object.specs.Planned.{stray_faults, sooner}
use Rattle.tf_plan_object.proofs.object.add_strays.Given as goal

abbrev pub invariant-loop-name : goal.invariant-loop-name
invariant-loop-name l =
    fold sooner (option_map named_fault_of l.fault) (stray_faults l.schema (arguments_view l.name-iterator)) ≡ fold sooner (option_map named_fault_of l.fn.first) (stray_faults l.schema (arguments_view l.arguments.entries))
