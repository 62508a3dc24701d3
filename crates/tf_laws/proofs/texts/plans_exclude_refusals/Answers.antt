use Rattle.tf_laws.proofs.Planning.{not_refused, one_refusals}
use Rattle.tf_laws.proofs.texts.plans_exclude_refusals.Goals as goal

pub returns : goal.returns
returns c =
    let laws = c.laws_of_reading.ensures in
    record { excluded = not_refused laws c.plans_are_not_refused.ensures; one = one_refusals laws c.refusals_are_one.ensures }
