use Rattle.std.proofs.Common.{refl, rules, string_bytes}
use Rattle.std.proofs.lemmas.Result.{on_ok_weaker}
use Rattle.tf_config_address.specs.ResourceAddr.{addr_of}
use Rattle.tf_state_data.specs.Record.{record_of}
use Rattle.tf_plan_json.proofs.Sent.{number_sent, stored_sent, text_sent}
use Rattle.tf_plan_json.proofs.prior_sending.send_object.Goals as goal

pub returns : goal.returns
returns g c =
    let s = c.args.object.now in
    on_ok_weaker c.end_map.result
    (λ done. stored_sent (string_bytes s.address) (string_bytes s.provider) (addr_of s.addr.now) (record_of s.instance.now) c.stored_count.result _ _ _ _ _ _ _ _ _ _ _ _ _ _ _ c.stored_count.ensures c.in_ok-begin_map.ensures
    (text_sent _ _ _ _ _ _ (search rules) c.in_ok-key.ensures c.in_ok-str.ensures) c.in_ok-send_dependencies.ensures c.in_ok-send_deposed.ensures c.in_ok-send_index.ensures
    (text_sent _ _ _ _ _ _ refl c.in_ok-key-2.ensures c.in_ok-str-2.ensures) (text_sent _ _ _ _ _ _ (search rules) c.in_ok-key-3.ensures c.in_ok-str-3.ensures) (text_sent _ _ _ _ _ _ (search rules) c.in_ok-key-4.ensures c.in_ok-str-4.ensures)
    (number_sent _ _ _ _ _ _ c.from.ensures c.in_ok-key-5.ensures c.in_ok-u64.ensures) (_, c.in_ok-key-6.ensures, c.in_ok-send_empty.ensures) c.in_ok-send_tainted.ensures
    (text_sent _ _ _ _ _ _ (search rules) c.in_ok-key-7.ensures c.in_ok-str-5.ensures) (_, c.in_ok-key-8.ensures, c.in_ok-serialize.ensures) done)
    c.end_map.ensures
