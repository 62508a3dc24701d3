-- A law on the changes of outputs.
use Rattle.std.specs.Prelude.{◌≡◌, List}
use Rattle.tf_plan_data.specs.Plan.{PlanView}
use Rattle.tf_plan_outputs.specs.Changes.{AreOutputChanges, OutputChangeView}

-- a plan has at most one list of changes of outputs
abbrev pub ChangesAreOne : Type 0
ChangesAreOne = (plan : PlanView) (cs ds : List OutputChangeView) → AreOutputChanges plan cs → AreOutputChanges plan ds → cs ≡ ds
