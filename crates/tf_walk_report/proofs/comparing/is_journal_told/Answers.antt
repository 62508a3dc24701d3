use Rattle.std.proofs.Common.{map, subst}
use Rattle.std.specs.List.{AllByRecursion}
use Rattle.tf_plan_data.specs.Action.{action_of}
use Rattle.tf_walk_action.specs.Journal.{IsOfAction}
use Rattle.tf_walk_report.proofs.comparing.is_journal_told.Goals as goal

pub returns-clause-told : goal.returns-clause-told
returns-clause-told c = λ yes.
    record {
      calls = record { in_order = c.follows.ensures.follows c.if-not-follows.false; verdicts = (c.are_calls_told.ensures.told yes).verdicts };
      ops = subst (AllByRecursion (IsOfAction (map action_of c.args.actions.now))) c.entries.ensures.entries (c.are_of_actions-of_actions.ensures.told c.if-not-of_actions.false);
    }

pub returns-clause-torn : goal.returns-clause-torn
returns-clause-torn c = λ no is.
    c.are_calls_told.ensures.torn no (record { in_order = c.entries.ensures.allowed; verdicts = is.calls.verdicts })
