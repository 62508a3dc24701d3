use Rattle.tf_laws.proofs.AskedAsPlanned.{planned_asked}
use Rattle.tf_laws.proofs.asking.planned_objects_are_asked.Goals as goal

pub returns : goal.returns
returns c = planned_asked c.changes_have_a_cause.ensures.creates c.changes_have_a_cause.ensures.updates c.changes_have_a_cause.ensures.replaces
