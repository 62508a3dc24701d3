use Rattle.std.proofs.Common.{sym, ap, ◌∙◌}
use Rattle.serde_json.specs.View.{members_view}
use Rattle.serde_json.proofs.Views.{members_view-insert_entry}
use Rattle.tf_cli_variables.specs.Merge.{put_each}
use Rattle.tf_cli_variables.proofs.merging.put_each.Goals as goal

pub loop-name-preserved : goal.loop-name-preserved
loop-name-preserved c =
    let values = c.loop-name.values.entries in
    let put_in = ap members_view c.in_ok-insert.ensures.entries ∙ members_view-insert_entry values c.in-Some.name c.in-Some.value in
    ap (λ b. put_each (members_view c.next.new.self) b) put_in ∙ sym (ap (λ es. put_each (members_view es) (members_view values)) c.in-Some.ensures.steps) ∙ c.loop-name.invariant
