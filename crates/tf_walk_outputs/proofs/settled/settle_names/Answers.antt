use Rattle.std.proofs.Common.{Contains, ap, subst, ◌∙◌}
use Rattle.tf_expand_keys.specs.Module.{IsModule}
use Rattle.tf_expand_keys.specs.declared.table.ModuleParts.{ModuleParts}
use Rattle.tf_graph.specs.NodeSet.{has}
use Rattle.tf_config_names.specs.Needs.{order_in}
use Rattle.tf_config_names.specs.Table.{names_in}
use Rattle.tf_walk_outputs.proofs.Solved.{among_all}
use Rattle.tf_walk_outputs.specs.Settled.{AreSettledAmong}
use Rattle.tf_walk_outputs.proofs.settled.settle_names.Goals as goal

pub settle_in-requires-clause-within : goal.settle_in-requires-clause-within
settle_in-requires-clause-within c =
    let fits = subst IsModule c.declared.view_is c.declared.invariant in
    λ n h. fits.dependence.within n (subst (λ xs. Contains xs n) (c.order.ensures ∙ ap (λ (m : ModuleParts). order_in m.dependence.now) c.declared.view_is) h)

pub returns : goal.returns
returns c =
    let fits = subst IsModule c.declared.view_is c.declared.invariant in
    let names = names_in c.args.declared.now.names.now in
    let d = c.args.declared.now.dependence.now in
    among_all names (has c.args.good.now) (order_in d) (has c.settle_in.new.settled) (fits.dependence.ranked fits.acyclic) (fits.dependence.whole fits.acyclic)
    (subst (λ xs. AreSettledAmong names (has c.args.good.now) xs (has c.settle_in.new.settled)) (c.order.ensures ∙ ap (λ (m : ModuleParts). order_in m.dependence.now) c.declared.view_is) c.settle_in.ensures)
