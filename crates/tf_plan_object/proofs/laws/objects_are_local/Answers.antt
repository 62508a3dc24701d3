use Rattle.tf_plan_object.proofs.Locals.{instances_local}
use Rattle.tf_plan_object.proofs.laws.objects_are_local.Goals as goal

pub returns : goal.returns
returns c = instances_local c.meaning_is_local.ensures.expressions
