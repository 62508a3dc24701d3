use Rattle.std.proofs.Common.{map, string_bytes}
use Rattle.serde_json.specs.Data.{string}
use Rattle.serde_json.specs.Events.{SendsItems}
use Rattle.serde_json.specs.View.{items_of}
use Rattle.tf_value_json.proofs.Sent.{GoesOn}
use Rattle.tf_plan_json.proofs.prior_sending.send_addresses.Given as goal

abbrev pub invariant-loop-text : goal.invariant-loop-text
invariant-loop-text g l =
    GoesOn SendsItems (items_of (map string (map string_bytes l.text-iterator))) (g.S.Serializer.written l.out) (items_of (map string (map string_bytes l.initial.text-iterator))) (g.S.Serializer.written l.initial.out)
