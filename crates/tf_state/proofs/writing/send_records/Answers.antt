use Rattle.std.proofs.Common.{map, refl, sym, arith}
use Rattle.std.proofs.lemmas.List.{drop_all}
use Rattle.serde_json.specs.View.{items_of}
use Rattle.tf_state_data.specs.Record.{record_of}
use Rattle.tf_state.specs.Text.{record_data}
use Rattle.tf_value_json.proofs.Sent.{array_sent}
use Rattle.tf_state.proofs.Lengths.{items_len-map}
use Rattle.tf_state.proofs.writing.send_records.Goals as goal

pub returns : goal.returns
returns g c =
    let w = g.S.Serializer.written in
    let xs = c.args.records.now in
    array_sent (λ rs. items_of (map record_data (map record_of rs))) (w c.args.out.now) (w c.begin_seq.new.self) (w c.loop-record.out) (w c.end_seq.new.self) c.end_seq.result refl
    (drop_all c.loop-record.record-index xs (omega arith)) (sym (items_len-map record_data record_of xs)) c.in_ok-begin_seq.ensures c.loop-record.invariant c.end_seq.ensures
