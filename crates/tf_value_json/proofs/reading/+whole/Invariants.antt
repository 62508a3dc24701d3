use Rattle.std.proofs.Common.{◌≡◌, drop}
use Rattle.serde_json.specs.View.{items_view, members_view}
use Rattle.tf_value_json.specs.Json.{items_from, entries_from}
use Rattle.tf_value_data.specs.Known.{known_items, known_entries}
use Rattle.tf_value_json.proofs.reading.+whole.Given as goal

abbrev pub invariant-are_whole-loop-item : goal.invariant-are_whole-loop-item
invariant-are_whole-loop-item l = known_items (items_from (items_view (drop l.item-index l.item-items))) ≡ known_items (items_from (items_view l.item-items))

abbrev pub invariant-members_are_whole-loop-member : goal.invariant-members_are_whole-loop-member
invariant-members_are_whole-loop-member l = known_entries (entries_from (members_view l.member-iterator)) ≡ known_entries (entries_from (members_view l.members.entries))
