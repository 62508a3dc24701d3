use Rattle.std.proofs.Common.{◌≡◌, ◌<◌, ℕ, List, Some, IfOk, length, sym, ap, subst, ◌∙◌}
use Rattle.std.specs.List.{AllByRecursion}
use Rattle.tf_config_address.specs.ResourceAddr.{addr_of}
use Rattle.tf_config_address.specs.ObjectId.{instance_key_of}
use Rattle.tf_config_data.specs.Config.{block_at}
use Rattle.tf_config_data.specs.Names.{a_block, meant_at, places}
use Rattle.tf_expand_keys.proofs.Places.{all_places}
use Rattle.tf_expand_keys.specs.Resolved.{environment}
use Rattle.tf_expand_keys.specs.Views.{shapes_of, resolved_names_of}
use Rattle.tf_expand_keys.specs.declared.table.ModuleParts.{ModuleParts}
use Rattle.tf_config_names.specs.Table.{names_in}
use Rattle.tf_plan_object.specs.Instance.{instance_object, instance_of}
use Rattle.tf_value_data.specs.Tree.{entries_view}
use Rattle.tf_walk_names.specs.Wanted.{instance_names}
use Rattle.tf_walk_action.proofs.Requesting.{requested, resource_below}
use Rattle.tf_walk_names.proofs.OutputValues.{standing_same}
use Rattle.tf_walk_names.proofs.Shared.{answered_each}
use Rattle.tf_walk_action.proofs.requests.request.Goals as goal

pub at-requires : goal.at-requires
at-requires g c =
    subst (λ (m : ModuleParts). c.args.place < length (names_in m.names.now)) (sym c.declared.view_is) (resource_below (names_in c.args.declared.now.names.now) c.args.place c.requires.resource)

pub add_resolved_names-requires-clause-within : goal.add_resolved_names-requires-clause-within
add_resolved_names-requires-clause-within g c =
    let names = names_in c.args.declared.now.names.now in
    let refers = instance_names (block_at (addr_of c.in-Resource.field-0.now) c.in-Resource.block.now) in
    let named : c.as_slice.result.now ≡ places names refers = c.as_slice.ensures.value ∙ c.in_ok-named.ensures (addr_of c.in-Resource.field-0.now) ∙ ap (λ (m : ModuleParts). places (names_in m.names.now) refers) c.declared.view_is in
    subst (λ (ns : List ℕ). AllByRecursion (λ n. n < length names) ns) (sym named) (all_places (λ n. n < length names) names refers (λ n h. h))

pub returns-clause-request : goal.returns-clause-request
returns-clause-request g c =
    let names = names_in c.args.declared.now.names.now in
    let addr = addr_of c.in-Resource.field-0.now in
    let block = block_at addr c.in-Resource.block.now in
    let named : c.as_slice.result.now ≡ places names (instance_names block) = c.as_slice.ensures.value ∙ c.in_ok-named.ensures addr ∙ ap (λ (m : ModuleParts). places (names_in m.names.now) (instance_names block)) c.declared.view_is in
    let variables = entries_view c.args.declared.now.variables.now.entries in
    let shapes = shapes_of c.args.shapes.now in
    let objects = g.R.Results.objects c.args.results.now in
    requested variables names shapes objects (resolved_names_of c.as_slice-2.result.now) block c.args.place
    (subst (λ (m : ModuleParts). meant_at (names_in m.names.now) c.args.place ≡ Some (a_block block)) c.declared.view_is c.in-Resource.ensures.meant)
    (λ resolved_names solves. standing_same resolved_names c.as_slice.result.now (places names (instance_names block)) c.add_resolved_names.new.kept.items c.as_slice-2.result.now named c.as_slice-2.ensures.value
    (answered_each variables names shapes objects (resolved_names_of c.add_resolved_names.new.kept.items) c.as_slice.result.now c.in_ok-add_resolved_names.ensures.answered c.in_ok-add_resolved_names.ensures.there resolved_names solves))
    (instance_key_of c.args.key.now) c.args.schema.now c.plan_instance.result
    (subst
    (λ (m : ModuleParts). IfOk c.plan_instance.result (λ planned. instance_of planned
    ≡ instance_object c.args.schema.now block (instance_key_of c.args.key.now) (environment (entries_view m.variables.now.entries) (names_in m.names.now) (resolved_names_of c.as_slice-2.result.now))))
    c.declared.view_is (c.plan_instance.ensures.plans addr))
