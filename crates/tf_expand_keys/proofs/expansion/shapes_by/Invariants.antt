use Rattle.tf_config_names.specs.Table.{names_in}
use Rattle.tf_value_data.specs.Tree.{entries_view}
use Rattle.tf_expand_keys.specs.Views.{resolved_names_of}
use Rattle.tf_expand_keys.proofs.Shaping.{HaveShapesBefore}
use Rattle.tf_expand_keys.proofs.expansion.shapes_by.Given as goal

abbrev pub invariant-loop-place : goal.invariant-loop-place
invariant-loop-place l = HaveShapesBefore (entries_view l.declared.variables.now.entries) (names_in l.declared.names.now) (resolved_names_of l.kept) l.place l.shapes.items
