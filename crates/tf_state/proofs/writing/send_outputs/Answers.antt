use Rattle.std.proofs.Common.{◌≡◌, length, sym, ◌∙◌, rules}
use Rattle.tf_state_data.specs.State.{outputs_of}
use Rattle.tf_state.specs.Text.{outputs_data}
use Rattle.tf_value_json.proofs.Sent.{object_sent}
use Rattle.tf_state.proofs.Lengths.{outputs_len}
use Rattle.tf_state.proofs.writing.send_outputs.Goals as goal

pub returns : goal.returns
returns g c =
    let w = g.S.Serializer.written in
    let len : c.len.result ≡ length c.args.outputs.now.entries = search rules in
    object_sent (λ es. outputs_data (outputs_of es)) (w c.args.out.now) (w c.begin_map.new.self) (w c.loop-name.out) (w c.end_map.new.self) c.end_map.result (search rules)
    c.in-None.ensures.steps.0 (len ∙ sym (outputs_len c.args.outputs.now.entries)) c.in_ok-begin_map.ensures c.loop-name.invariant c.end_map.ensures
