-- Reports of one plan that excuse the same are one.
use Rattle.std.proofs.Common.{◌≡◌, List, sym, subst}
use Rattle.tf_state_next.specs.Laws.{StateAfterIsOne}
use Rattle.tf_walk_action.specs.Laws.{RequestsAreOne}
use Rattle.tf_walk_action.specs.Outcome.{AreOutcomes, ActionResultView}
use Rattle.tf_walk_action.specs.declared.excuse.Excuse.{Excuse}
use Rattle.tf_walk_outputs.specs.OutputLaws.{OutputsAreOne, SettledAreOne}
use Rattle.tf_walk_report.specs.Report.{IsTold}
use Rattle.tf_state_next.specs.ObjectLaws.{KeyIsOne}
use Rattle.tf_laws.proofs.Ended.{outcomes_one}
use Rattle.tf_laws.proofs.Told.{told_one}
use Rattle.tf_laws.specs.One.{ReportsAreOne}

pub reports_one : RequestsAreOne → SettledAreOne → OutputsAreOne → KeyIsOne → StateAfterIsOne → ReportsAreOne
reports_one requests settled outputs keys after ms plan report other founded one two x =
    let solved : AreOutcomes ms two.requests plan report.excused.items two.done = subst (λ (es : List Excuse). AreOutcomes ms two.requests plan es two.done) (sym x) two.is_report.solved in
    let same : one.done ≡ two.done = outcomes_one requests ms plan one.requests two.requests founded one.are_requests two.are_requests report.excused.items one.done two.done one.is_report.solved solved in
    let told : IsTold ms plan one.done two.outputs other = subst (λ (d : List ActionResultView). IsTold ms plan d two.outputs other) (sym same) two.is_report.told in
    let rest = told_one keys after settled outputs ms plan one.done one.outputs two.outputs report other founded.names one.is_report.told told x in
    (same, rest.0, rest.1)
