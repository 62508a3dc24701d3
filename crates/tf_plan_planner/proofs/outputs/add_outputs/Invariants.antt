-- what is refused so far, with what is refused of the outputs that are left
use Rattle.std.proofs.Common.{◌≡◌, ◌++◌, map}
use Rattle.tf_expand_keys.specs.Views.{resolved_names_of}
use Rattle.tf_config_names.specs.Table.{names_in}
use Rattle.tf_config_refusal.specs.Refusal.{refusal_of}
use Rattle.tf_expr_syntax.specs.ExprTree.{entries_view as expressions_view}
use Rattle.tf_value_data.specs.Tree.{entries_view}
use Rattle.tf_plan_planner.specs.Outputs.{output_refusals}
use Rattle.tf_plan_planner.proofs.outputs.add_outputs.Given as goal

abbrev pub invariant-loop-name : goal.invariant-loop-name
invariant-loop-name l =
    let refused = output_refusals (entries_view l.declared.variables.now.entries) (names_in l.declared.names.now) (resolved_names_of l.kept) in
    map refusal_of l.refusals.items ++ refused (expressions_view l.name-iterator) ≡ map refusal_of l.fn.refusals.items ++ refused (expressions_view l.outputs.entries)
