-- all say so exactly where those that are left do
use Rattle.std.proofs.Common.{map, drop}
use Rattle.std.specs.List.{AllByRecursion}
use Rattle.tf_plan_data.specs.Action.{action_of}
use Rattle.tf_walk_action.specs.Journal.{IsOfAction}
use Rattle.tf_walk_report.proofs.operations.are_of_actions.Given as goal

abbrev pub invariant-loop-entry : goal.invariant-loop-entry
invariant-loop-entry l =
    record {
      rest : AllByRecursion (IsOfAction (map action_of l.actions)) (drop l.entry-index l.entries) → AllByRecursion (IsOfAction (map action_of l.actions)) l.entries;
      whole : AllByRecursion (IsOfAction (map action_of l.actions)) l.entries → AllByRecursion (IsOfAction (map action_of l.actions)) (drop l.entry-index l.entries);
    }
