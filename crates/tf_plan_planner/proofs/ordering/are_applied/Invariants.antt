use Rattle.tf_config_names.proofs.Tests.{RestsOn}
use Rattle.tf_plan_planner.specs.Ordered.{is_applied}
use Rattle.tf_plan_data.specs.Action.{action_of}
use Rattle.tf_plan_planner.proofs.ordering.are_applied.Given as goal

abbrev pub invariant-loop-action : goal.invariant-loop-action
invariant-loop-action l = RestsOn is_applied action_of l.actions l.action-index
