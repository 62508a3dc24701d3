use Rattle.std.proofs.Common.{◌≡◌, ◌∙◌, IfErr, IfOk, ap, false, map, refl, slice_index_or, subst, sym}
use Rattle.std.specs.List.{list_any}
use Rattle.std.proofs.lemmas.List.{length-map}
use Rattle.std.proofs.lemmas.Result.{err_from_is_err_and}
use Rattle.tf_plan_data.specs.Action.{action_of}
use Rattle.tf_config_names.specs.Needs.{needs_in}
use Rattle.tf_config_names.specs.Table.{names_in}
use Rattle.tf_expand_keys.specs.declared.table.ModuleParts.{ModuleParts}
use Rattle.tf_plan_planner.proofs.Undestroyed.{applied-err, applied-ok}
use Rattle.tf_plan_planner.proofs.Tying.{order-is, pairs-refused, ties-sound}
use Rattle.tf_plan_planner.specs.Ordered.{IsOrdered}
use Rattle.tf_plan_planner.specs.Refused.{HasManyPairs, Tells}
use Rattle.tf_plan_order.specs.Late.{AreLate}
use Rattle.tf_plan_order.specs.Marks.{is_marked}
use Rattle.tf_plan_order.specs.ResourceIndex.{numbered}
use Rattle.tf_plan_order.specs.Table.{numbered_in, resources_in}
use Rattle.tf_plan_planner.proofs.ordering.order_actions.Goals as goal

pub order_by-requires-clause-sound : goal.order_by-requires-clause-sound
order_by-requires-clause-sound c =
    let numbers =
    subst (λ (m : ModuleParts). numbered_in c.args.resource_index.now ≡ numbered (names_in m.names.now) (resources_in c.args.resource_index.now)) (sym c.declared.view_is) c.requires.numbered in
    let d = c.declared.inside.parts.dependence.now in
    let all = numbered_in c.args.resource_index.now in
    let are : AreLate d.graph c.in_ok-stored.stored.graph (map is_marked all) c.in_ok-late.late.items =
    rw (c.graph-needs.ensures, c.graph.ensures, c.as_slice-2.ensures.value, c.in_ok-marked.ensures) at c.in_ok-late.ensures.late in
    rw c.as_slice-3.ensures.value
    (ties-sound (names_in c.declared.inside.parts.names.now) (resources_in c.args.resource_index.now) all d c.in_ok-stored.stored c.in_ok-late.late.items c.declared.invariant.dependence numbers c.in_ok-stored.ensures (map is_marked all)
    c.declared.invariant.acyclic are)

pub returns-in_err-order-clause-refused : goal.returns-in_err-order-clause-refused
returns-in_err-order-clause-refused c =
    let numbers =
    subst (λ (m : ModuleParts). numbered_in c.args.resource_index.now ≡ numbered (names_in m.names.now) (resources_in c.args.resource_index.now)) (sym c.declared.view_is) c.requires.numbered in
    let d = c.declared.inside.parts.dependence.now in
    let all = numbered_in c.args.resource_index.now in
    let are : AreLate d.graph c.in_ok-stored.stored.graph (map is_marked all) c.in_ok-late.late.items =
    rw (c.graph-needs.ensures, c.graph.ensures, c.as_slice-2.ensures.value, c.in_ok-marked.ensures) at c.in_ok-late.ensures.late in
    let p = err_from_is_err_and c.from_residual-in_err-order.result c.from_residual-in_err-order.ensures.1 in
    rw (p.1, p.2)
    (subst (λ (m : ModuleParts). Tells (HasManyPairs (names_in m.names.now) (resources_in c.args.resource_index.now) (map action_of c.args.actions.now)) c.in_err-order.field-0.0) c.declared.view_is
    (pairs-refused (names_in c.declared.inside.parts.names.now) (resources_in c.args.resource_index.now) all d c.in_ok-stored.stored c.in_ok-late.late.items c.declared.invariant.dependence numbers c.in_ok-stored.ensures
    (map action_of c.args.actions.now) c.in_err-order.field-0.0 are (rw c.as_slice-3.ensures.value at c.in_err-order.ensures.refused)))

pub returns-clause-ordered : goal.returns-clause-ordered
returns-clause-ordered c =
    let numbers =
    subst (λ (m : ModuleParts). numbered_in c.args.resource_index.now ≡ numbered (names_in m.names.now) (resources_in c.args.resource_index.now)) (sym c.declared.view_is) c.requires.numbered in
    let d = c.declared.inside.parts.dependence.now in
    let all = numbered_in c.args.resource_index.now in
    let are : AreLate d.graph c.in_ok-stored.stored.graph (map is_marked all) c.in_ok-late.late.items =
    rw (c.graph-needs.ensures, c.graph.ensures, c.as_slice-2.ensures.value, c.in_ok-marked.ensures) at c.in_ok-late.ensures.late in
    subst
    (λ (m : ModuleParts). IsOrdered (names_in m.names.now) (resources_in c.args.resource_index.now) (needs_in m.dependence.now) (λ n. slice_index_or c.in_ok-late.late.items n false) (map action_of c.args.actions.now) c.in_ok-order.order)
    c.declared.view_is
    (order-is (names_in c.declared.inside.parts.names.now) (resources_in c.args.resource_index.now) all d c.in_ok-stored.stored c.in_ok-late.late.items c.declared.invariant.dependence numbers c.in_ok-stored.ensures c.in_ok-order.order
    (map action_of c.args.actions.now) are (c.in_ok-order.ensures.nodes ∙ sym (length-map c.args.actions.now action_of)) (rw c.as_slice-3.ensures.value at c.in_ok-order.ensures.edges) c.in_ok-order.ensures.few)

pub returns-then-not-is_any_marked-clause-ordered : goal.returns-then-not-is_any_marked-clause-ordered
returns-then-not-is_any_marked-clause-ordered c =
    let numbers =
    subst (λ (m : ModuleParts). numbered_in c.args.resource_index.now ≡ numbered (names_in m.names.now) (resources_in c.args.resource_index.now)) (sym c.declared.view_is) c.requires.numbered in
    let names = names_in c.declared.inside.parts.names.now in
    let resources = resources_in c.args.resource_index.now in
    let marks = c.in_ok-marked.marked.items in
    let unmarked : list_any (λ m. m) marks ≡ false = rw c.as_slice.ensures.value at (sym c.is_any_marked.ensures ∙ c.if-not-is_any_marked.true) in
    subst
    (λ (m : ModuleParts). IfOk c.order_applied.result (λ o. IsOrdered (names_in m.names.now) resources (needs_in m.dependence.now) (λ n. slice_index_or o.late.items n false) (map action_of c.args.actions.now) o.order))
    c.declared.view_is
    (applied-ok names resources c.declared.inside.parts.dependence.now marks c.declared.invariant.dependence (c.in_ok-marked.ensures ∙ ap (map is_marked) numbers) unmarked
    c.order_applied.result c.args.actions.now c.in_ok-marked.marked refl (sym c.are_applied.ensures ∙ c.if-are_applied.true)
    c.order_applied.ensures.late c.order_applied.ensures.nodes c.order_applied.ensures.edges c.order_applied.ensures.few)

pub returns-then-not-is_any_marked-clause-refused : goal.returns-then-not-is_any_marked-clause-refused
returns-then-not-is_any_marked-clause-refused c =
    let numbers =
    subst (λ (m : ModuleParts). numbered_in c.args.resource_index.now ≡ numbered (names_in m.names.now) (resources_in c.args.resource_index.now)) (sym c.declared.view_is) c.requires.numbered in
    let names = names_in c.declared.inside.parts.names.now in
    let resources = resources_in c.args.resource_index.now in
    let marks = c.in_ok-marked.marked.items in
    let unmarked : list_any (λ m. m) marks ≡ false = rw c.as_slice.ensures.value at (sym c.is_any_marked.ensures ∙ c.if-not-is_any_marked.true) in
    subst (λ (m : ModuleParts). IfErr c.order_applied.result (Tells (HasManyPairs (names_in m.names.now) resources (map action_of c.args.actions.now)))) c.declared.view_is
    (applied-err names resources c.declared.inside.parts.dependence.now marks c.declared.invariant.dependence (c.in_ok-marked.ensures ∙ ap (map is_marked) numbers) unmarked
    c.order_applied.result (map action_of c.args.actions.now) (sym c.are_applied.ensures ∙ c.if-are_applied.true) c.order_applied.ensures.refused)
