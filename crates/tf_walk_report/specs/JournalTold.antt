-- Whether the journal of a report agrees with the report.
use Rattle.std.specs.Prelude.{◌≡◌, ℕ, List}
use Rattle.std.specs.List.{AllByRecursion}
use Rattle.tf_plan_data.specs.Action.{ActionView}
use Rattle.tf_graph.specs.Digraph.{Digraph, predecessors_of}
use Rattle.tf_graph.specs.Order.{IsInOrder}
use Rattle.tf_provider.specs.Entries.{actions_of}
use Rattle.tf_walk_action.specs.Journal.{IsOfAction, verdict_in}
use Rattle.tf_walk_report.specs.declared.report.Report.{Report}
use Rattle.tf_walk_report.specs.declared.report.Walked.{Walked}
use Rattle.tf_walk_report.specs.declared.report.Walked.TheVariants.{Whole, Torn}
use Rattle.tf_walk_report.specs.Told.{verdict_told}

-- A journal holds exactly the calls that its report says were made, each once with its verdict, no call before one that
-- it depends on.
pub record AreCallsTold (order : Digraph) (report : Report) : Type 0 where
  pub in_order : IsInOrder (predecessors_of order) (actions_of report.journal.entries)
  pub verdicts : (n : ℕ) → verdict_in report.journal.entries n ≡ verdict_told report.outcomes.items report.excused.items n

-- And each entry has the operation of its action in the plan.
pub record IsJournalTold (order : Digraph) (actions : List ActionView) (report : Report) : Type 0 where
  pub calls : AreCallsTold order report
  pub ops : AllByRecursion (IsOfAction actions) report.journal.entries

-- a report is whole if its journal agrees with it, and otherwise it is torn
abbrev pub IsSettled : Digraph → List ActionView → Report → Walked → Type 0
IsSettled order actions report (Whole r) = (r ≡ report) × IsJournalTold order actions report
IsSettled order actions report (Torn r) = (r ≡ report) × (IsJournalTold order actions report → ⊥)
