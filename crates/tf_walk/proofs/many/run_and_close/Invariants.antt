-- the walk is named by its providers, its plan, its tally and its flag
use Rattle.std.proofs.Common.{map}
use Rattle.tf_plan_data.specs.Plan.{plan_of}
use Rattle.tf_walk.proofs.many.run_and_close.Given as goal

abbrev pub ghosts-run_as : goal.ghosts-run_as
ghosts-run_as g a =
    record {
      meanings = map (λ b. (g.dyn-1.0.entry b.vtable).1.meaning b.value) a.providers.now;
      plan = plan_of a.plan.now;
      table = a.tally.now;
      flag = a.stop.now;
    }
