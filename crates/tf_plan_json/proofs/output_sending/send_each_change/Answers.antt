use Rattle.std.proofs.Common.{map, refl, sym, arith}
use Rattle.std.proofs.lemmas.List.{drop_all}
use Rattle.tf_plan_json.specs.Document.{output_members}
use Rattle.tf_plan_json.proofs.Sent.{changes_len}
use Rattle.tf_plan_outputs.specs.Views.{change_view}
use Rattle.tf_value_json.proofs.Sent.{object_sent}
use Rattle.tf_plan_json.proofs.output_sending.send_each_change.Goals as goal

pub returns : goal.returns
returns g c =
    let w = g.S.Serializer.written in
    let xs = c.args.outputs.now in
    object_sent (λ cs. output_members (map change_view cs)) (w c.args.out.now) (w c.begin_map.new.self) (w c.loop-output.out) (w c.end_map.new.self) c.end_map.result refl
    (drop_all c.loop-output.output-index xs (omega arith)) (sym (changes_len xs)) c.in_ok-begin_map.ensures c.loop-output.invariant c.end_map.ensures
