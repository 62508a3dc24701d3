-- The journals of two reports on one plan.
use Rattle.std.specs.Prelude.{◌≡◌, ℕ, List, IsPermutation}
use Rattle.tf_walk_action.specs.Journal.{verdict_in}
use Rattle.tf_plan_data.specs.Plan.{PlanView}
use Rattle.tf_provider_protocol.specs.Meaning.{Meaning}
use Rattle.tf_provider.specs.declared.journal.Entry.{Entry}
use Rattle.tf_walk_report.specs.Report.{IsWhole}
use Rattle.tf_walk_report.specs.declared.report.Report.{Report}
use Rattle.tf_laws.specs.Founded.{IsFounded}

-- Each action has an entry in one journal exactly if it has one in the other, with the same verdict. One journal's entries are
-- the other's in some order.
pub record HaveSameEntries (entries others : List Entry) : Type 0 where
  pub verdicts : (n : ℕ) → verdict_in entries n ≡ verdict_in others n
  pub reordered : IsPermutation entries others

-- If two whole reports on a plan have the same excuses, their journals have the same entries.
abbrev pub JournalsAgree : Type 0
JournalsAgree =
    (ms : List Meaning) (plan : PlanView) (report other : Report)
    → IsFounded plan → IsWhole ms plan report → IsWhole ms plan other → report.excused.items ≡ other.excused.items
    → HaveSameEntries report.journal.entries other.journal.entries
