use Rattle.serde_json.specs.Events.{SendsItems}
use Rattle.tf_plan_json.specs.Parts.{false_items}
use Rattle.tf_value_data.specs.Tree.{texts_view}
use Rattle.tf_value_json.proofs.Sent.{GoesOn}
use Rattle.tf_plan_json.proofs.unknown.send_texts.Given as goal

abbrev pub invariant-loop-text : goal.invariant-loop-text
invariant-loop-text g l =
    GoesOn SendsItems (false_items (texts_view l.text-iterator)) (g.S.Serializer.written l.out) (false_items (texts_view l.initial.text-iterator)) (g.S.Serializer.written l.initial.out)
