use Rattle.std.proofs.Common.{◌≡◌, ◌++◌, map}
use Rattle.std.specs.Vec.Iter.{into_iter_items}
use Rattle.tf_value_data.specs.Tree.{tree_of}
use Rattle.tf_config_json.proofs.Made.{made_of}
use Rattle.tf_config_json.proofs.types.items_as.Given as goal

abbrev pub invariant-loop-item : goal.invariant-loop-item
invariant-loop-item l = map tree_of l.made.items ++ map (made_of l.element) (into_iter_items l.item-iterator) ≡ map (made_of l.element) l.fn.items.items
