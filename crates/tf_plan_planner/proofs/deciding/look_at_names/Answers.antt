use Rattle.std.proofs.Common.{map, subst, sym}
use Rattle.tf_plan_decision.specs.Stage.{deciding}
use Rattle.tf_expand_keys.specs.Module.{IsModule}
use Rattle.tf_expand_keys.specs.Views.{shapes_of, resolved_names_of}
use Rattle.tf_plan_planner.proofs.Wanting.{AreMarked, wanted_closed, wanted_needs, wanted_stand}
use Rattle.tf_plan_planner.specs.Input.{names_given, outputs_given, resources_given, variables_given}
use Rattle.tf_plan_planner.proofs.deciding.look_at_names.Goals as goal

pub decide_in_order-requires-clause-closed : goal.decide_in_order-requires-clause-closed
decide_in_order-requires-clause-closed g c =
    let fits = subst IsModule c.declared.view_is c.declared.invariant in
    let given = c.args.given.now in
    let d = given.declared.now.dependence.now in
    let marked : AreMarked (names_given given) d (outputs_given given) c.as_slice.result.now = subst (λ xs. AreMarked (names_given given) d (outputs_given given) xs) (sym c.as_slice.ensures.value) c.in_ok-wanted.ensures in
    wanted_closed (names_given given) d (outputs_given given) fits.dependence c.as_slice.result.now marked

pub decide_in_order-requires-clause-needed : goal.decide_in_order-requires-clause-needed
decide_in_order-requires-clause-needed g c =
    let fits = subst IsModule c.declared.view_is c.declared.invariant in
    let given = c.args.given.now in
    let d = given.declared.now.dependence.now in
    let marked : AreMarked (names_given given) d (outputs_given given) c.as_slice.result.now = subst (λ xs. AreMarked (names_given given) d (outputs_given given) xs) (sym c.as_slice.ensures.value) c.in_ok-wanted.ensures in
    wanted_needs (names_given given) d (outputs_given given) fits.dependence c.as_slice.result.now marked

pub returns-clause-resolved_names : goal.returns-clause-resolved_names
returns-clause-resolved_names g c =
    let fits = subst IsModule c.declared.view_is c.declared.invariant in
    let ms = map (λ b. (goal.Provider-dyn g (b.vtable, b.value)).meaning b.value) c.args.providers.now in
    let given = c.args.given.now in
    let d = given.declared.now.dependence.now in
    let marked : AreMarked (names_given given) d (outputs_given given) c.as_slice.result.now = subst (λ xs. AreMarked (names_given given) d (outputs_given given) xs) (sym c.as_slice.ensures.value) c.in_ok-wanted.ensures in
    wanted_stand (names_given given) d (outputs_given given) fits.dependence (deciding ms (resources_given given) (shapes_of c.args.shapes.now)) (variables_given given) c.as_slice.result.now (λ r. resolved_names_of r.resolved_names.items)
    c.decide_in_order.result fits.acyclic marked c.decide_in_order.ensures.resolved_names
