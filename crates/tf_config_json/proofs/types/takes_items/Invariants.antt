use Rattle.std.proofs.Common.{◌≡◌, drop}
use Rattle.tf_value_data.specs.Tree.{items_view}
use Rattle.tf_config_json.specs.Types.{takes_items}
use Rattle.tf_config_json.proofs.types.takes_items.Given as goal

abbrev pub invariant-loop-item : goal.invariant-loop-item
invariant-loop-item l = takes_items l.element (items_view (drop l.item-index l.item-items)) ≡ takes_items l.element (items_view l.item-items)
