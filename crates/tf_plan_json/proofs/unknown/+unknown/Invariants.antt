use Rattle.std.proofs.Common.{drop}
use Rattle.serde_json.specs.Events.{SendsItems, SendsMembers}
use Rattle.tf_plan_json.specs.Parts.{unknown_items, unknown_members}
use Rattle.tf_value_data.specs.Tree.{items_view, entries_view}
use Rattle.tf_value_json.proofs.Sent.{GoesOn}
use Rattle.tf_plan_json.proofs.unknown.+unknown.Given as goal

abbrev pub invariant-send_items-loop-item : goal.invariant-send_items-loop-item
invariant-send_items-loop-item g l =
    GoesOn SendsItems (unknown_items (items_view (drop l.item-index l.item-items))) (g.S.Serializer.written l.out) (unknown_items (items_view l.item-items)) (g.S.Serializer.written l.initial.out)

abbrev pub invariant-send_entries-loop-key : goal.invariant-send_entries-loop-key
invariant-send_entries-loop-key g l =
    GoesOn SendsMembers (unknown_members (entries_view l.key-iterator)) (g.S.Serializer.written l.out) (unknown_members (entries_view l.initial.key-iterator)) (g.S.Serializer.written l.initial.out)
