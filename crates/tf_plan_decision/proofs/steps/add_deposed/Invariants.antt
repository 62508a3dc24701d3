use Rattle.std.proofs.Common.{◌≡◌, ◌++◌, map, take}
use Rattle.std.specs.List.{flat_map}
use Rattle.tf_plan_decision.proofs.steps.add_deposed.Given as goal
use Rattle.tf_plan_decision.specs.Steps.{deposed_step}
use Rattle.tf_plan_decision.specs.Views.{steps_of}
use Rattle.tf_state_data.specs.Record.{record_of}

abbrev pub invariant-loop-kept : goal.invariant-loop-kept
invariant-loop-kept l = steps_of l.steps.items ≡ steps_of l.fn.steps.items ++ flat_map deposed_step (map record_of (take l.kept-index l.records))
