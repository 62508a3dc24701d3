use Rattle.std.proofs.Common.{map, string_bytes, refl, sym, arith}
use Rattle.std.proofs.lemmas.List.{drop_all}
use Rattle.serde_json.specs.View.{items_of}
use Rattle.tf_plan_data.specs.Action.{names_of}
use Rattle.tf_plan_json.specs.Document.{path_data}
use Rattle.tf_plan_json.proofs.Counted.{items_len-map}
use Rattle.tf_value_json.proofs.Sent.{array_sent}
use Rattle.tf_plan_json.proofs.changing.send_each.Goals as goal

pub returns : goal.returns
returns g c =
    let w = g.S.Serializer.written in
    let xs = c.args.names.now in
    array_sent (λ ss. items_of (map path_data (names_of ss))) (w c.args.out.now) (w c.begin_seq.new.self) (w c.loop-name.out) (w c.end_seq.new.self) c.end_seq.result refl
    (drop_all c.loop-name.name-index xs (omega arith)) (sym (items_len-map path_data string_bytes xs)) c.in_ok-begin_seq.ensures c.loop-name.invariant c.end_seq.ensures
