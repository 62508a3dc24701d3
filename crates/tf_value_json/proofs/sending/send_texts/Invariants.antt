use Rattle.serde_json.specs.Events.{SendsItems}
use Rattle.tf_value_json.specs.Json.{texts_data}
use Rattle.tf_value_data.specs.Tree.{texts_view}
use Rattle.tf_value_json.proofs.Sent.{GoesOn}
use Rattle.tf_value_json.proofs.sending.send_texts.Given as goal

abbrev pub invariant-loop-text : goal.invariant-loop-text
invariant-loop-text g l =
    GoesOn SendsItems (texts_data (texts_view l.text-iterator)) (g.S.Serializer.written l.out) (texts_data (texts_view l.initial.text-iterator)) (g.S.Serializer.written l.initial.out)
