use Rattle.std.proofs.Common.{map}
use Rattle.std.proofs.lemmas.Result.{on_ok_weaker}
use Rattle.tf_plan_json.specs.Document.{output_changes_data}
use Rattle.tf_plan_json.specs.Prior.{some_prior}
use Rattle.tf_plan_json.specs.Views.{entry_view, stored_view}
use Rattle.tf_plan_json.proofs.Sent.{document_sent}
use Rattle.tf_plan_outputs.specs.Views.{change_view}
use Rattle.tf_state_data.specs.State.{outputs_of}
use Rattle.tf_value_data.specs.Tree.{entries_view}
use Rattle.tf_plan_json.proofs.document.send_document.Goals as goal

pub returns : goal.returns
returns g c =
    on_ok_weaker c.end_map.result
    (λ e. document_sent (entries_view c.args.variables.now.entries) (output_changes_data (map change_view c.args.changes.now)) (some_prior (outputs_of c.args.outputs.now.entries) (map stored_view c.args.objects.now)) (map entry_view c.args.entries.now)
    c.document_count.result _ _ _ _ _ _ _ _ _ _ _ c.document_count.ensures c.in_ok-begin_map.ensures
    (_, c.in_ok-key.ensures, c.in_ok-bool.ensures) (_, c.in_ok-key-2.ensures, c.in_ok-bool-2.ensures) (_, c.in_ok-key-3.ensures, c.in_ok-str.ensures) c.in_ok-send_output_changes.ensures c.in_ok-send_prior.ensures
    (_, c.in_ok-key-4.ensures, c.in_ok-send_entries.ensures) (_, c.in_ok-key-5.ensures, c.in_ok-str-2.ensures) (_, c.in_ok-key-6.ensures, c.in_ok-send_variables.ensures) e)
    c.end_map.ensures
