-- A change of an output as plain data.
use Rattle.std.specs.Prelude.{option_map, string_bytes}
use Rattle.tf_plan_outputs.specs.Changes.{OutputActionView, OutputChangeView, no_op, create_it, update_it, delete_it}
use Rattle.tf_plan_outputs.specs.declared.change.OutputAction.{OutputAction}
use Rattle.tf_plan_outputs.specs.declared.change.OutputAction.TheVariants as rust
use Rattle.tf_plan_outputs.specs.declared.change.OutputChange.{OutputChange}
use Rattle.tf_value_data.specs.Tree.{tree_of}

abbrev pub action_view : OutputAction → OutputActionView
action_view rust.NoOp = no_op
action_view rust.Create = create_it
action_view rust.Update = update_it
action_view rust.Delete = delete_it

abbrev pub change_view : OutputChange → OutputChangeView
change_view c = record { name = string_bytes c.name; before = option_map (λ v. tree_of v.now) c.before; after = option_map tree_of c.after }
