-- A change as plain data.
use Rattle.std.specs.Prelude.{option_map, string_bytes}
use Rattle.tf_config_address.specs.ObjectId.{instance_key_of}
use Rattle.tf_config_address.specs.ResourceAddr.{addr_of}
use Rattle.tf_plan_changes.specs.Changes.{ChangeView, KindView, create_it, update_it, replace_it, replace_late, destroy_it}
use Rattle.tf_plan_changes.specs.declared.change.Change.{Change}
use Rattle.tf_plan_changes.specs.declared.change.ChangeKind.{ChangeKind}
use Rattle.tf_plan_changes.specs.declared.change.ChangeKind.TheVariants as rust
use Rattle.tf_plan_data.specs.Action.{names_of}
use Rattle.tf_value_data.specs.Tree.{tree_of}

abbrev pub kind_view : ChangeKind → KindView
kind_view rust.Create = create_it
kind_view rust.Update = update_it
kind_view (rust.Replace names) = replace_it (names_of names.now.items)
kind_view (rust.LateReplace names) = replace_late (names_of names.now.items)
kind_view rust.Destroy = destroy_it

abbrev pub change_view : Change → ChangeView
change_view c =
    record {
      resource = c.resource;
      addr = addr_of c.addr.now;
      key = instance_key_of c.key.now;
      deposed = option_map (λ s. string_bytes s.now) c.deposed;
      kind = kind_view c.kind;
      before = option_map (λ v. tree_of v.now) c.before;
      after = option_map (λ v. tree_of v.now) c.after;
    }
