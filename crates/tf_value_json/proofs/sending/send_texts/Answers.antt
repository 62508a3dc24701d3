use Rattle.std.proofs.Common.{◌≡◌, length, sym, ◌∙◌, rules}
use Rattle.tf_value_data.specs.Tree.{texts_view}
use Rattle.tf_value_json.specs.Json.{texts_data}
use Rattle.tf_value_json.proofs.JsonForms.{texts_len-is}
use Rattle.tf_value_json.proofs.Sent.{array_sent}
use Rattle.tf_value_json.proofs.sending.send_texts.Goals as goal

pub returns : goal.returns
returns g c =
    let len : c.len.result ≡ length c.args.texts.now.keys = search rules in
    let all : c.into_iter-text-iterator.result ≡ c.args.texts.now.keys = search rules in
    let w = g.S.Serializer.written in
    array_sent (λ ss. texts_data (texts_view ss)) (w c.args.out.now) (w c.begin_seq.new.self) (w c.loop-text.out) (w c.end_seq.new.self) c.end_seq.result
    all c.in-None.ensures.steps.0 (len ∙ sym (texts_len-is c.args.texts.now.keys)) c.in_ok-begin_seq.ensures c.loop-text.invariant c.end_seq.ensures
