use Rattle.std.proofs.Common.{◌≡◌, take, map}
use Rattle.serde_json.specs.View.{view}
use Rattle.tf_value_json.specs.Json.{tree_from}
use Rattle.tf_value_data.specs.Tree.{tree_of, entries_view}
use Rattle.tf_value_data.proofs.Views.{ShownBefore}
use Rattle.tf_value_json.proofs.reading.+read.Given as goal

abbrev pub invariant-read_items-loop-item : goal.invariant-read_items-loop-item
invariant-read_items-loop-item l = map tree_of l.values.items ≡ map (λ j. tree_from (view j)) (take l.item-index l.item-items)

abbrev pub invariant-read_members-loop-key : goal.invariant-read_members-loop-key
invariant-read_members-loop-key l = ShownBefore (λ j. tree_from (view j)) l.members.entries l.key-iterator (entries_view l.entries.entries)
