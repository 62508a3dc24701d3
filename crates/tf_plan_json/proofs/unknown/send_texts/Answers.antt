use Rattle.std.proofs.Common.{◌≡◌, length, sym, ◌∙◌, rules}
use Rattle.tf_plan_json.specs.Parts.{false_items}
use Rattle.tf_plan_json.proofs.Counted.{false_items_len}
use Rattle.tf_value_data.specs.Tree.{texts_view}
use Rattle.tf_value_json.proofs.Sent.{array_sent}
use Rattle.tf_plan_json.proofs.unknown.send_texts.Goals as goal

pub returns : goal.returns
returns g c =
    let len : c.len.result ≡ length c.args.texts.now.keys = search rules in
    let all : c.into_iter-text-iterator.result ≡ c.args.texts.now.keys = search rules in
    let w = g.S.Serializer.written in
    array_sent (λ ss. false_items (texts_view ss)) (w c.args.out.now) (w c.begin_seq.new.self) (w c.loop-text.out) (w c.end_seq.new.self) c.end_seq.result
    all c.in-None.ensures.steps.0 (len ∙ sym (false_items_len c.args.texts.now.keys)) c.in_ok-begin_seq.ensures c.loop-text.invariant c.end_seq.ensures
