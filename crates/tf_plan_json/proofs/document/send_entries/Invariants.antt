use Rattle.std.proofs.Common.{map, drop}
use Rattle.serde_json.specs.Events.{SendsItems}
use Rattle.serde_json.specs.View.{items_of}
use Rattle.tf_plan_json.specs.Views.{entry_view}
use Rattle.tf_value_json.proofs.Sent.{GoesOn}
use Rattle.tf_plan_json.proofs.document.send_entries.Given as goal

abbrev pub invariant-loop-entry : goal.invariant-loop-entry
invariant-loop-entry g l =
    GoesOn SendsItems (items_of (map entry_view (drop l.entry-index l.entries))) (g.S.Serializer.written l.out) (items_of (map entry_view l.entries)) (g.S.Serializer.written l.initial.out)
