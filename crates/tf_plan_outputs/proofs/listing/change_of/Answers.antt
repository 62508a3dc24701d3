use Rattle.std.proofs.Common.{sym, subst}
use Rattle.tf_expand_keys.specs.Views.{resolved_names_of}
use Rattle.tf_plan_data.specs.Plan.{plan_of}
use Rattle.tf_plan_outputs.specs.Objects.{objects_planned}
use Rattle.tf_walk_action.specs.SoFar.{ResolvedSoFar}
use Rattle.tf_plan_outputs.proofs.listing.change_of.Goals as goal
use Rattle.tf_plan_outputs.proofs.listing.change_of.Goals.{in-Some+in_ok-planned_value-in-Some, in-None}

pub returns-clause-so_far : goal.returns-clause-so_far
returns-clause-so_far c =
    elim c.match-find.branch [
      | in-Some+in_ok-planned_value-in-Some w ↦ rw w.resolved-is w.in_ok-planned_value-in-Some.ensures.so_far
      | in-None w ↦ rw w.resolved-is c.requires.so_far
    ]
