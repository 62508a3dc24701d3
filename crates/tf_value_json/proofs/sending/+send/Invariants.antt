use Rattle.std.proofs.Common.{drop}
use Rattle.serde_json.specs.Events.{SendsItems, SendsMembers}
use Rattle.tf_value_data.specs.Tree.{items_view, entries_view}
use Rattle.tf_value_json.specs.Json.{items_data, entries_data}
use Rattle.tf_value_json.proofs.Sent.{GoesOn}
use Rattle.tf_value_json.proofs.sending.+send.Given as goal

abbrev pub invariant-send_items-loop-item : goal.invariant-send_items-loop-item
invariant-send_items-loop-item g l =
    GoesOn SendsItems (items_data (items_view (drop l.item-index l.item-items))) (g.S.Serializer.written l.out) (items_data (items_view l.item-items)) (g.S.Serializer.written l.initial.out)

abbrev pub invariant-send_entries-loop-key : goal.invariant-send_entries-loop-key
invariant-send_entries-loop-key g l =
    GoesOn SendsMembers (entries_data (entries_view l.key-iterator)) (g.S.Serializer.written l.out) (entries_data (entries_view l.initial.key-iterator)) (g.S.Serializer.written l.initial.out)
