use Rattle.std.proofs.Common.{IfOk, Contains, ap, subst, ◌∙◌}
use Rattle.tf_config_names.specs.Needs.{order_in}
use Rattle.tf_config_names.specs.Table.{names_in}
use Rattle.tf_value_data.specs.Tree.{entries_view}
use Rattle.tf_expand_keys.specs.Kept.{AreResolved}
use Rattle.tf_expand_keys.specs.Module.{IsModule}
use Rattle.tf_expand_keys.specs.Views.{resolved_names_of}
use Rattle.tf_expand_keys.specs.declared.table.ModuleParts.{ModuleParts}
use Rattle.tf_expand_keys.proofs.table.resolved_names.Goals as goal

pub resolved_in_order-requires-clause-within : goal.resolved_in_order-requires-clause-within
resolved_in_order-requires-clause-within g c =
    let fits = subst IsModule c.declared.view_is c.declared.invariant in
    λ n h. fits.dependence.within n (subst (λ xs. Contains xs n) (c.order.ensures ∙ ap (λ (m : ModuleParts). order_in m.dependence.now) c.declared.view_is) h)

pub returns-clause-resolved_names : goal.returns-clause-resolved_names
returns-clause-resolved_names g c =
    subst
    (λ xs. IfOk c.resolved_in_order.result (λ kept. AreResolved (g.T.ResourceValues.stage c.args.stage.now) (entries_view c.args.declared.now.variables.now.entries) (names_in c.args.declared.now.names.now) xs c.args.wanted.now (resolved_names_of kept.items)))
    (c.order.ensures ∙ ap (λ (m : ModuleParts). order_in m.dependence.now) c.declared.view_is) c.resolved_in_order.ensures.resolved_names
