-- the changes so far, with the names that are left
use Rattle.std.proofs.Common.{◌≡◌, ◌++◌, map}
use Rattle.std.specs.List.{AllByRecursion}
use Rattle.tf_plan_data.specs.Plan.{plan_of}
use Rattle.tf_plan_outputs.proofs.Listed.{names_of}
use Rattle.tf_plan_outputs.specs.Changes.{IsOutputChange, output_names}
use Rattle.tf_plan_outputs.specs.Objects.{objects_planned}
use Rattle.tf_plan_outputs.specs.Views.{change_view}
use Rattle.tf_value_data.specs.Tree.{texts_view}
use Rattle.tf_walk_action.specs.SoFar.{ResolvedSoFar}
use Rattle.tf_plan_outputs.proofs.listing.changes_of.Given as goal

abbrev pub invariant-loop-name : goal.invariant-loop-name
invariant-loop-name l =
    record {
      names : names_of l.made.items ++ texts_view l.name-iterator ≡ output_names (plan_of l.plan);
      each : AllByRecursion (IsOutputChange (plan_of l.plan)) (map change_view l.made.items);
      so_far : ResolvedSoFar (plan_of l.plan) (objects_planned (plan_of l.plan)) l.resolved.items;
    }
