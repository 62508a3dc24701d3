use Rattle.std.proofs.Common.{◌≡◌, map, take}
use Rattle.tf_plan_decision.proofs.steps.removal_steps.Given as goal
use Rattle.tf_plan_decision.specs.Steps.{removal_steps}
use Rattle.tf_plan_decision.specs.Views.{steps_of}
use Rattle.tf_state_data.specs.Record.{record_of}

abbrev pub invariant-loop-kept : goal.invariant-loop-kept
invariant-loop-kept l = steps_of l.steps.items ≡ removal_steps (map record_of (take l.kept-index l.records))
