use Rattle.std.proofs.Common.{map, drop}
use Rattle.serde_json.specs.Events.{SendsItems}
use Rattle.serde_json.specs.View.{items_of}
use Rattle.tf_plan_json.specs.Views.{stored_view}
use Rattle.tf_value_json.proofs.Sent.{GoesOn}
use Rattle.tf_plan_json.proofs.prior_sending.send_each_object.Given as goal

abbrev pub invariant-loop-object : goal.invariant-loop-object
invariant-loop-object g l =
    GoesOn SendsItems (items_of (map stored_view (drop l.object-index l.objects))) (g.S.Serializer.written l.out) (items_of (map stored_view l.objects)) (g.S.Serializer.written l.initial.out)
