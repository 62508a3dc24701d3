use Rattle.std.proofs.Common.{drop}
use Rattle.serde_json.specs.Events.{SendsItems, SendsMembers}
use Rattle.tf_state.specs.Types.{item_types, entry_types}
use Rattle.tf_value_data.specs.Tree.{items_view, entries_view}
use Rattle.tf_value_json.proofs.Sent.{GoesOn}
use Rattle.tf_state.proofs.types.+types.Given as goal

abbrev pub invariant-send_item_types-loop-item : goal.invariant-send_item_types-loop-item
invariant-send_item_types-loop-item g l = GoesOn SendsItems (item_types (items_view (drop l.item-index l.item-items))) (g.S.Serializer.written l.out) (item_types (items_view l.item-items)) (g.S.Serializer.written l.initial.out)

abbrev pub invariant-send_entry_types-loop-key : goal.invariant-send_entry_types-loop-key
invariant-send_entry_types-loop-key g l = GoesOn SendsMembers (entry_types (entries_view l.key-iterator)) (g.S.Serializer.written l.out) (entry_types (entries_view l.initial.key-iterator)) (g.S.Serializer.written l.initial.out)
