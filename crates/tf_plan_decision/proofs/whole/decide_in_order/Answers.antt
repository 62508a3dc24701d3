use Rattle.std.proofs.Common.{IfOk, Contains, map, ap, subst, ◌∙◌}
use Rattle.tf_plan_decision.specs.Rows.{AreDecided, rows_of}
use Rattle.tf_plan_decision.specs.Stage.{deciding}
use Rattle.tf_expand_keys.specs.Kept.{AreResolved}
use Rattle.tf_expand_keys.specs.Module.{IsModule}
use Rattle.tf_expand_keys.specs.Views.{shapes_of, resolved_names_of}
use Rattle.tf_expand_keys.specs.declared.table.ModuleParts.{ModuleParts}
use Rattle.tf_config_names.specs.Needs.{order_in}
use Rattle.tf_config_names.specs.Table.{names_in}
use Rattle.tf_state_data.specs.State.{state_of}
use Rattle.tf_value_data.specs.Tree.{entries_view}
use Rattle.tf_plan_decision.proofs.whole.decide_in_order.Goals as goal

pub decide_in_topological_order-requires-clause-within : goal.decide_in_topological_order-requires-clause-within
decide_in_topological_order-requires-clause-within g c =
    let fits = subst IsModule c.declared.view_is c.declared.invariant in
    λ n h. fits.dependence.within n (subst (λ xs. Contains xs n) (c.order.ensures ∙ ap (λ (m : ModuleParts). order_in m.dependence.now) c.declared.view_is) h)

pub returns-clause-resolved_names : goal.returns-clause-resolved_names
returns-clause-resolved_names g c =
    let ms = map (λ b. (goal.Provider-dyn g (b.vtable, b.value)).meaning b.value) c.args.stage.now.providers.now in
    subst
    (λ xs. IfOk c.decide_in_topological_order.result (λ r. AreResolved (deciding ms (state_of c.args.stage.now.state.now).resources (shapes_of c.args.stage.now.shapes.now)) (entries_view c.args.declared.now.variables.now.entries)
    (names_in c.args.declared.now.names.now) xs c.args.wanted.now (resolved_names_of r.resolved_names.items)))
    (c.order.ensures ∙ ap (λ (m : ModuleParts). order_in m.dependence.now) c.declared.view_is) c.decide_in_topological_order.ensures.resolved_names

pub returns-clause-rows : goal.returns-clause-rows
returns-clause-rows g c =
    let ms = map (λ b. (goal.Provider-dyn g (b.vtable, b.value)).meaning b.value) c.args.stage.now.providers.now in
    subst
    (λ xs. IfOk c.decide_in_topological_order.result (λ r. AreDecided ms (state_of c.args.stage.now.state.now).resources (entries_view c.args.declared.now.variables.now.entries)
    (names_in c.args.declared.now.names.now) (shapes_of c.args.stage.now.shapes.now) xs (rows_of r.rows.items)))
    (c.order.ensures ∙ ap (λ (m : ModuleParts). order_in m.dependence.now) c.declared.view_is) c.decide_in_topological_order.ensures.rows
