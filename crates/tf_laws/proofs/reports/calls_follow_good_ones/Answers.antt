use Rattle.tf_laws.proofs.CalledAfter.{called_after_good, entered_after_good, judged_after_good}
use Rattle.tf_laws.proofs.reports.calls_follow_good_ones.Goals as goal

pub returns : goal.returns
returns c = record { called = called_after_good; judged = judged_after_good; entered = entered_after_good }
