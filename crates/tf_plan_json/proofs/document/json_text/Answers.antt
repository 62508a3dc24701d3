use Rattle.std.proofs.Common.{ap, map, refl}
use Rattle.tf_plan_data.specs.Plan.{plan_of}
use Rattle.tf_plan_json.proofs.Printed.{printed}
use Rattle.tf_plan_outputs.specs.Views.{change_view}
use Rattle.tf_plan_json.proofs.document.json_text.Goals as goal

pub returns : goal.returns
returns c =
    let outputs = map change_view c.in_ok-changes.changes.items in
    printed (plan_of c.args.planned.now) _ outputs outputs c.document_text.result (ap plan_of c.planned.view_is) refl c.in_ok-changes.ensures c.document_text.ensures
