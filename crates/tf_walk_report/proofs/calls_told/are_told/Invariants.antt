-- the entries passed have the verdicts that are told
use Rattle.std.proofs.Common.{◌≡◌, All, Some, take}
use Rattle.tf_walk_report.specs.Told.{verdict_told}
use Rattle.tf_walk_report.proofs.calls_told.are_told.Given as goal

abbrev pub invariant-loop-entry : goal.invariant-loop-entry
invariant-loop-entry l = All (λ e. verdict_told l.outcomes l.excused e.action ≡ Some e.verdict) (take l.entry-index l.entries)
