use Rattle.std.proofs.Common.{map, subst}
use Rattle.tf_plan_order.specs.AddressOrder.{AreInAddressOrder}
use Rattle.tf_plan_decision.specs.Rows.{rows_of}
use Rattle.tf_expand_keys.specs.Module.{IsModule}
use Rattle.tf_expand_keys.specs.Views.{shapes_of, resolved_names_of}
use Rattle.tf_plan_planner.proofs.Looking.{once-placed, planned-is}
use Rattle.tf_plan_planner.specs.Input.{names_given, outputs_given, resources_given, variables_given}
use Rattle.tf_plan_order.specs.ResourceIndex.{numbered}
use Rattle.tf_plan_order.specs.Table.{numbered_in}
use Rattle.tf_plan_planner.proofs.deciding.plan_instances.Goals as goal

pub plan_places-requires-clause-once : goal.plan_places-requires-clause-once
plan_places-requires-clause-once g c = rw c.as_slice.ensures.value (once-placed (numbered_in c.args.given.now.resource_index.now) c.in_ok-places.places.items c.in_ok-places.ensures)

pub returns : goal.returns
returns g c =
    let fits = subst IsModule c.declared.view_is c.declared.invariant in
    let ms = map (λ b. (goal.Provider-dyn g (b.vtable, b.value)).meaning b.value) c.args.providers.now in
    let names = names_given c.args.given.now in
    let resources = resources_given c.args.given.now in
    let sorted : AreInAddressOrder (numbered names resources) c.in_ok-places.places.items = rw c.requires.numbered at c.in_ok-places.ensures in
    planned-is ms resources (variables_given c.args.given.now) names (outputs_given c.args.given.now) (shapes_of c.args.shapes.now) c.in_ok-places.places.items (resolved_names_of c.in_ok-looked.looked.resolved_names.items)
    (rows_of c.in_ok-looked.looked.rows.items) c.args.given.now.declared.now.dependence.now c.plan_places.result fits.dependence fits.acyclic sorted c.in_ok-looked.ensures.resolved_names c.in_ok-looked.ensures.rows
    (rw c.as_slice.ensures.value at c.plan_places.ensures)
