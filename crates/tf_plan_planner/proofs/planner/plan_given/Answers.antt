use Rattle.std.proofs.Common.{◌≡◌, ◌≤◌, List, map, length, sym, subst, arith}
use Rattle.std.proofs.lemmas.List.{length-map}
use Rattle.std.proofs.lemmas.Result.{err_from_is_err_and}
use Rattle.tf_plan_data.specs.Action.{action_of}
use Rattle.tf_expand_keys.specs.Views.{shapes_of}
use Rattle.tf_expand_keys.specs.declared.shape.InstanceKeys.{InstanceKeys}
use Rattle.tf_plan_planner.proofs.Declaring.{unplanned, many_pairs}
use Rattle.tf_plan_planner.specs.Input.{names_given, outputs_given, resources_given, variables_given}
use Rattle.tf_plan_planner.specs.Plan.{max_actions}
use Rattle.tf_plan_planner.specs.Planned.{AreInstances}
use Rattle.tf_plan_planner.specs.declared.deciding.PlanInput.{PlanInput}
use Rattle.tf_plan_planner.proofs.planner.plan_given.Goals as goal

same_instances : (given : PlanInput) (xs ys : List InstanceKeys) → xs ≡ ys → AreInstances (variables_given given) (names_given given) (shapes_of ys) → AreInstances (variables_given given) (names_given given) (shapes_of xs)
same_instances given xs ys e h = subst (λ zs. AreInstances (variables_given given) (names_given given) (shapes_of zs)) (sym e) h

pub returns-in_err-actions-clause-refused : goal.returns-in_err-actions-clause-refused
returns-in_err-actions-clause-refused g c =
    let ms = map (λ b. (goal.Provider-dyn g (b.vtable, b.value)).meaning b.value) c.args.providers.now in
    let given = c.args.given.now in
    let p = err_from_is_err_and c.from_residual-in_err-actions.result c.from_residual-in_err-actions.ensures.1 in
    rw (p.1, p.2)
    (unplanned ms (resources_given given) (variables_given given) (names_given given) (outputs_given given) (shapes_of c.as_slice.result.now) (same_instances given c.as_slice.result.now c.in_ok-shapes.shapes.items c.as_slice.ensures.value c.in_ok-shapes.ensures.instances) c.in_err-actions.field-0.0 c.in_err-actions.ensures.refused)

pub returns-in_err-ordered-clause-refused : goal.returns-in_err-ordered-clause-refused
returns-in_err-ordered-clause-refused g c =
    let ms = map (λ b. (goal.Provider-dyn g (b.vtable, b.value)).meaning b.value) c.args.providers.now in
    let given = c.args.given.now in
    let p = err_from_is_err_and c.from_residual-in_err-ordered.result c.from_residual-in_err-ordered.ensures.1 in
    let counted = length-map c.in_ok-actions.actions.items action_of in
    let fewer = c.in_ok-actions.ensures.few in
    let few : length (map action_of c.in_ok-actions.actions.items) ≤ max_actions = omega (arith, counted, fewer) in
    rw (p.1, p.2)
    (many_pairs ms (resources_given given) (variables_given given) (names_given given) (outputs_given given) (shapes_of c.as_slice.result.now) (same_instances given c.as_slice.result.now c.in_ok-shapes.shapes.items c.as_slice.ensures.value c.in_ok-shapes.ensures.instances) (map action_of c.in_ok-actions.actions.items) c.in_err-ordered.field-0.0
    c.in_ok-actions.ensures.planned few (rw (c.as_slice-2.ensures.value, c.requires.given.resources) at c.in_err-ordered.ensures.refused))

pub returns-clause-planned : goal.returns-clause-planned
returns-clause-planned g c =
    let counted = length-map c.in_ok-actions.actions.items action_of in
    let fewer = c.in_ok-actions.ensures.few in
    record {
      instances = c.in_ok-shapes.ensures.instances;
      planned = rw c.as_slice.ensures.value at c.in_ok-actions.ensures.planned;
      few = omega (arith, counted, fewer);
      ordered = rw (c.as_slice-2.ensures.value, c.requires.given.resources) at c.in_ok-ordered.ensures.ordered;
    }
