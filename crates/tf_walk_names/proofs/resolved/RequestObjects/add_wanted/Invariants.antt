use Rattle.tf_expand_keys.specs.Views.{shapes_of}
use Rattle.tf_config_names.specs.Needs.{order_in}
use Rattle.tf_config_names.specs.Table.{names_in}
use Rattle.tf_value_data.specs.Tree.{entries_view}
use Rattle.tf_walk_names.proofs.Shared.{IsAdding}
use Rattle.tf_walk_names.proofs.resolved.RequestObjects.add_wanted.Given as goal

abbrev pub invariant-loop-place : goal.invariant-loop-place
invariant-loop-place g l =
    IsAdding (entries_view l.self.declared.now.variables.now.entries) (names_in l.self.declared.now.names.now) (shapes_of l.self.shapes.now) (g.R.Results.objects l.self.results.now)
    (order_in l.self.declared.now.dependence.now) l.wanted l.place-index l.kept.items
