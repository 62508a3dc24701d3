-- no action so far is requested
use Rattle.std.proofs.Common.{◌≡◌, map, replicate}
use Rattle.tf_walk_requests.specs.Stages.{pending, stage_of}
use Rattle.tf_walk_requests.proofs.progress.PlanProgress.new.Given as goal

abbrev pub invariant-loop : goal.invariant-loop
invariant-loop l = map stage_of l.stages.items ≡ replicate l.counter pending
