use Rattle.tf_plan_outputs.proofs.One.{changes_one}
use Rattle.tf_plan_outputs.proofs.laws.changes_are_one.Goals as goal

pub returns : goal.returns
returns c = changes_one
