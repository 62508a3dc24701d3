use Rattle.std.proofs.Common.{map, ap}
use Rattle.tf_config_names.specs.Table.{names_in}
use Rattle.tf_expand_keys.specs.Views.{shapes_of, resolved_names_of}
use Rattle.tf_expr_syntax.specs.ExprTree.{tree_of as expr_of}
use Rattle.tf_plan_data.specs.Action.{action_of}
use Rattle.tf_plan_data.specs.Plan.{plan_of}
use Rattle.tf_plan_outputs.proofs.Valued.{by_parts, by_plan, objects_same, planned_fault, planned_value}
use Rattle.tf_plan_outputs.specs.Objects.{planned_object}
use Rattle.tf_value_data.specs.Tree.{tree_of}
use Rattle.tf_value_data.specs.declared.value.Value.{Unknown}
use Rattle.tf_expr_operators.proofs.Trees.{tree_of-Unknown}
use Rattle.tf_plan_outputs.proofs.values.planned_value.Goals as goal

pub output_value-requires : goal.output_value-requires
output_value-requires c =
    let plan = plan_of c.args.plan.now in
    let names = names_in c.args.names.now in
    let shapes = shapes_of c.as_slice-2.result.now in
    let actions = map action_of c.as_slice.result.now in
    let objects = planned_object names plan.prior actions in
    let shaped = ap shapes_of c.as_slice-2.ensures.value in
    let given = objects_same plan names actions c.requires.names (ap (map action_of) c.as_slice.ensures.value) in
    record { answered = by_parts plan names shapes objects c.requires.names shaped given (resolved_names_of c.args.resolved.now.items) c.requires.so_far }

pub returns-in_err-value-clause-so_far : goal.returns-in_err-value-clause-so_far
returns-in_err-value-clause-so_far c =
    let plan = plan_of c.args.plan.now in
    let names = names_in c.args.names.now in
    let shapes = shapes_of c.as_slice-2.result.now in
    let actions = map action_of c.as_slice.result.now in
    let objects = planned_object names plan.prior actions in
    let shaped = ap shapes_of c.as_slice-2.ensures.value in
    let given = objects_same plan names actions c.requires.names (ap (map action_of) c.as_slice.ensures.value) in
    by_plan plan names shapes objects c.requires.names shaped given (resolved_names_of c.output_value.new.kept.items) c.output_value.ensures.answered

pub returns-in-Ok-clause-so_far : goal.returns-in-Ok-clause-so_far
returns-in-Ok-clause-so_far c =
    let plan = plan_of c.args.plan.now in
    let names = names_in c.args.names.now in
    let shapes = shapes_of c.as_slice-2.result.now in
    let actions = map action_of c.as_slice.result.now in
    let objects = planned_object names plan.prior actions in
    let shaped = ap shapes_of c.as_slice-2.ensures.value in
    let given = objects_same plan names actions c.requires.names (ap (map action_of) c.as_slice.ensures.value) in
    by_plan plan names shapes objects c.requires.names shaped given (resolved_names_of c.output_value.new.kept.items) c.output_value.ensures.answered

pub returns-in-Err-clause-so_far : goal.returns-in-Err-clause-so_far
returns-in-Err-clause-so_far c =
    let plan = plan_of c.args.plan.now in
    let names = names_in c.args.names.now in
    let shapes = shapes_of c.as_slice-2.result.now in
    let actions = map action_of c.as_slice.result.now in
    let objects = planned_object names plan.prior actions in
    let shaped = ap shapes_of c.as_slice-2.ensures.value in
    let given = objects_same plan names actions c.requires.names (ap (map action_of) c.as_slice.ensures.value) in
    by_plan plan names shapes objects c.requires.names shaped given (resolved_names_of c.output_value.new.kept.items) c.output_value.ensures.answered

pub returns-in-Ok-clause-value : goal.returns-in-Ok-clause-value
returns-in-Ok-clause-value c =
    let plan = plan_of c.args.plan.now in
    let names = names_in c.args.names.now in
    let shapes = shapes_of c.as_slice-2.result.now in
    let actions = map action_of c.as_slice.result.now in
    let objects = planned_object names plan.prior actions in
    let shaped = ap shapes_of c.as_slice-2.ensures.value in
    let given = objects_same plan names actions c.requires.names (ap (map action_of) c.as_slice.ensures.value) in
    planned_value plan names shapes objects c.requires.names shaped given (c.requires.fits.dependence.ranked c.requires.fits.acyclic) (expr_of c.args.expr.now) c.in-Ok.value (tree_of c.within_limits.result) c.within_limits.ensures (rw c.in-Ok.is at c.in_ok-value.ensures.output)

pub returns-in-Err-clause-value : goal.returns-in-Err-clause-value
returns-in-Err-clause-value c =
    let plan = plan_of c.args.plan.now in
    let names = names_in c.args.names.now in
    let shapes = shapes_of c.as_slice-2.result.now in
    let actions = map action_of c.as_slice.result.now in
    let objects = planned_object names plan.prior actions in
    let shaped = ap shapes_of c.as_slice-2.ensures.value in
    let given = objects_same plan names actions c.requires.names (ap (map action_of) c.as_slice.ensures.value) in
    planned_fault plan names shapes objects c.requires.names shaped given (c.requires.fits.dependence.ranked c.requires.fits.acyclic) (expr_of c.args.expr.now) c.in-Err.field-0 (tree_of Unknown) tree_of-Unknown (rw c.in-Err.is at c.in_ok-value.ensures.output)
