use Rattle.std.proofs.lemmas.Result.{on_ok_weaker}
use Rattle.tf_state_data.specs.Record.{record_of}
use Rattle.tf_state.proofs.Sent.{record_sent}
use Rattle.tf_state.proofs.record_writing.send_record.Goals as goal

pub returns : goal.returns
returns g c =
    on_ok_weaker c.end_map.result
    (λ e. record_sent (record_of c.args.instance.now) c.member_count.result c.from.result _ _ _ _ _ _ _ _ _ _ _ _ c.member_count.ensures c.from.ensures c.in_ok-begin_map.ensures c.in_ok-key.ensures c.in_ok-serialize.ensures c.in_ok-send_flag.ensures
    c.in_ok-send_dependencies.ensures c.in_ok-send_deposed.ensures c.in_ok-send_key.ensures c.in_ok-key-2.ensures c.in_ok-u64.ensures c.in_ok-send_status.ensures e)
    c.end_map.ensures
