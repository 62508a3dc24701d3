-- one turn more was made
use Rattle.std.proofs.Common.{map}
use Rattle.tf_plan_data.specs.Plan.{plan_of}
use Rattle.tf_recovery.proofs.Turns.{IsTurn}
use Rattle.tf_walk_requests.specs.Stages.{stage_of}
use Rattle.tf_recovery.proofs.carrying.carried_out.Given as goal

abbrev pub invariant-loop : goal.invariant-loop
invariant-loop g l = IsTurn (map (λ b. (goal.Provider-dyn g (b.vtable, b.value)).meaning b.value) l.providers) (plan_of l.planned) l.fn.session l.session (map stage_of l.progress.stages.items)
