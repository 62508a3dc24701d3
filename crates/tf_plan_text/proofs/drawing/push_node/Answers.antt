use Rattle.std.proofs.Common.{codes, false, slice_index_or, string_bytes}
use Rattle.std.proofs.lemmas.Result.{on_ok_weaker}
use Rattle.tf_plan_data.specs.Action.{action_of}
use Rattle.tf_plan_text.proofs.Pushed.{pushed_thrice, when_pushed}
use Rattle.tf_plan_text.specs.Dot.{node_label, node_opening}
use Rattle.tf_plan_text.specs.Quoted.{escaped}
use Rattle.tf_plan_text.proofs.drawing.push_node.Goals as goal

pub returns : goal.returns
returns c = on_ok_weaker c.push_str.result
    (λ h. pushed_thrice (string_bytes c.args.text.now) (string_bytes c.push_opening.new.text) (string_bytes c.push_label.new.text) (string_bytes c.push_str.new.self)
    (node_opening c.args.place) (escaped (node_label (λ n. slice_index_or c.args.late.now n false) (action_of c.args.action.now))) (codes "\"]\n")
    c.in_ok-push_opening.ensures c.in_ok-push_label.ensures h)
    (when_pushed c.push_str.result (string_bytes c.push_label.new.text) (string_bytes c.push_str.new.self) (codes "\"]\n") c.push_str.ensures.bytes)
