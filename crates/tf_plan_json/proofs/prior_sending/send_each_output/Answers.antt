use Rattle.std.proofs.Common.{◌≡◌, length, sym, ◌∙◌, rules}
use Rattle.tf_plan_json.specs.Members.{members_by}
use Rattle.tf_plan_json.specs.Prior.{output_data}
use Rattle.tf_plan_json.proofs.Counted.{outputs_len}
use Rattle.tf_state_data.specs.State.{outputs_of}
use Rattle.tf_value_json.proofs.Sent.{object_sent}
use Rattle.tf_plan_json.proofs.prior_sending.send_each_output.Goals as goal

pub returns : goal.returns
returns g c =
    let len : c.len.result ≡ length c.args.outputs.now.entries = search rules in
    let all : c.into_iter-name-iterator.result ≡ c.args.outputs.now.entries = search rules in
    let w = g.S.Serializer.written in
    object_sent (λ es. members_by output_data (outputs_of es)) (w c.args.out.now) (w c.begin_map.new.self) (w c.loop-name.out) (w c.end_map.new.self) c.end_map.result
    all c.in-None.ensures.steps.0 (len ∙ sym (outputs_len output_data c.args.outputs.now.entries)) c.in_ok-begin_map.ensures c.loop-name.invariant c.end_map.ensures
