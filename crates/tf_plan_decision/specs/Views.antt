-- Outcomes as plain data.
use Rattle.std.specs.Prelude.{List, map, Result, Ok, Err, Vec}
use Rattle.std.specs.declared.alloc.Global.{Global}
use Rattle.tf_plan_data.specs.Action.{StepView, step_of}
use Rattle.tf_plan_data.specs.declared.step.Step.{Step}
use Rattle.tf_plan_decision.specs.Answer.{decision_fault_of}
use Rattle.tf_plan_decision.specs.Outcome.{OutcomeView}
use Rattle.tf_plan_decision.specs.declared.decision.DecisionFault.{DecisionFault}

-- steps as plain data
abbrev pub steps_of : List Step → List StepView
steps_of steps = map step_of steps

abbrev pub outcome_of : Result (Vec Step Global) DecisionFault → OutcomeView
outcome_of (Ok steps) = Ok (steps_of steps.items)
outcome_of (Err why) = Err (decision_fault_of why)
