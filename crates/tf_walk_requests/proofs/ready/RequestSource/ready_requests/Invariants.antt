-- the actions passed aren't ready, and the requests so far are due
use Rattle.std.proofs.Common.{map}
use Rattle.tf_plan_data.specs.Plan.{plan_of}
use Rattle.tf_provider_log.specs.LogEntry.{log_entry_of}
use Rattle.tf_walk_requests.proofs.Stepping.{AreRequested}
use Rattle.tf_walk_requests.specs.Stages.{stage_of}
use Rattle.tf_walk_requests.proofs.ready.RequestSource.ready_requests.Given as goal

abbrev pub invariant-loop-action : goal.invariant-loop-action
invariant-loop-action g l =
    AreRequested (map (λ b. (goal.Provider-dyn g (b.vtable, b.value)).meaning b.value) l.self.providers.now) (plan_of l.self.plan.now) (map log_entry_of l.self.entries.now) (map stage_of l.fn.stages) (map stage_of l.stages) l.requests.items l.memo l.action
