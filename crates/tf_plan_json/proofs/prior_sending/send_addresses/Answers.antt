use Rattle.std.proofs.Common.{◌≡◌, length, map, string_bytes, sym, ◌∙◌, rules}
use Rattle.serde_json.specs.Data.{string}
use Rattle.serde_json.specs.View.{items_of}
use Rattle.tf_plan_json.proofs.Counted.{items_len-map}
use Rattle.tf_value_json.proofs.Sent.{array_sent}
use Rattle.tf_plan_json.proofs.prior_sending.send_addresses.Goals as goal

pub returns : goal.returns
returns g c =
    let w = g.S.Serializer.written in
    let len : c.len.result ≡ length c.args.texts.now.keys = search rules in
    array_sent (λ ss. items_of (map string (map string_bytes ss))) (w c.args.out.now) (w c.begin_seq.new.self) (w c.loop-text.out) (w c.end_seq.new.self) c.end_seq.result (search rules)
    c.in-None.ensures.steps.0 (len ∙ sym (items_len-map string string_bytes c.args.texts.now.keys)) c.in_ok-begin_seq.ensures c.loop-text.invariant c.end_seq.ensures
