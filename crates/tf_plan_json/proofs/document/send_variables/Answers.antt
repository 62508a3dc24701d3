use Rattle.std.proofs.Common.{◌≡◌, length, sym, ◌∙◌, rules}
use Rattle.tf_plan_json.specs.Document.{variable_data}
use Rattle.tf_plan_json.specs.Members.{members_by}
use Rattle.tf_plan_json.proofs.Counted.{variables_len}
use Rattle.tf_value_data.specs.Tree.{entries_view}
use Rattle.tf_value_json.proofs.Sent.{object_sent}
use Rattle.tf_plan_json.proofs.document.send_variables.Goals as goal

pub returns : goal.returns
returns g c =
    let len : c.len.result ≡ length c.args.variables.now.entries = search rules in
    let all : c.into_iter-name-iterator.result ≡ c.args.variables.now.entries = search rules in
    let w = g.S.Serializer.written in
    object_sent (λ es. members_by variable_data (entries_view es)) (w c.args.out.now) (w c.begin_map.new.self) (w c.loop-name.out) (w c.end_map.new.self) c.end_map.result
    all c.in-None.ensures.steps.0 (len ∙ sym (variables_len variable_data c.args.variables.now.entries)) c.in_ok-begin_map.ensures c.loop-name.invariant c.end_map.ensures
