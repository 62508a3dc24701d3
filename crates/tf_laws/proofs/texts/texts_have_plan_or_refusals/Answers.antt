use Rattle.tf_laws.proofs.OneOfTwo.{Planning, never_unapplied, never_unplanned, plans_told}
use Rattle.tf_laws.proofs.ToldOf.{Resolved}
use Rattle.tf_laws.proofs.texts.texts_have_plan_or_refusals.Goals as goal

pub returns : goal.returns
returns c =
    let laws : Resolved = record { stands = c.faultless_trees_stand.ensures.stands; values = c.values_are_one.ensures.values } in
    let more : Planning = record { few = c.names_are_few.ensures; planned = c.planned_or_refused.ensures } in
    record { never_neither = never_unplanned laws more; applies = never_unapplied laws more; told = plans_told laws more }
