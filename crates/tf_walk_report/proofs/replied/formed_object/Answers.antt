use Rattle.std.proofs.lemmas.Bool.{OnTrue_at}
use Rattle.tf_walk_report.proofs.Formed.{attributes-known}
use Rattle.tf_walk_report.proofs.replied.formed_object.Goals as goal

pub invariant_of-result : goal.invariant_of-result
invariant_of-result c = record { known = attributes-known _ (OnTrue_at c.if-is_well_formed.true c.is_well_formed.ensures.stored) }
