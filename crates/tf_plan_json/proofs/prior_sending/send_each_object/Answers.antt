use Rattle.std.proofs.Common.{map, refl, sym, arith}
use Rattle.std.proofs.lemmas.List.{drop_all}
use Rattle.serde_json.specs.View.{items_of}
use Rattle.tf_plan_json.specs.Views.{stored_view}
use Rattle.tf_plan_json.proofs.Counted.{items_len-each}
use Rattle.tf_value_json.proofs.Sent.{array_sent}
use Rattle.tf_plan_json.proofs.prior_sending.send_each_object.Goals as goal

pub returns : goal.returns
returns g c =
    let w = g.S.Serializer.written in
    let xs = c.args.objects.now in
    array_sent (λ es. items_of (map stored_view es)) (w c.args.out.now) (w c.begin_seq.new.self) (w c.loop-object.out) (w c.end_seq.new.self) c.end_seq.result refl
    (drop_all c.loop-object.object-index xs (omega arith)) (sym (items_len-each stored_view xs)) c.in_ok-begin_seq.ensures c.loop-object.invariant c.end_seq.ensures
