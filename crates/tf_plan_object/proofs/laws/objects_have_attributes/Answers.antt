use Rattle.tf_plan_object.proofs.Named.{instances_named}
use Rattle.tf_plan_object.proofs.laws.objects_have_attributes.Goals as goal

pub returns : goal.returns
returns c = instances_named
