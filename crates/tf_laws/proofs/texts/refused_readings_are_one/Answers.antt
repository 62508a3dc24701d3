use Rattle.tf_laws.proofs.Refusing.{apply_refusals_one, refusals_one, refused_readings_one}
use Rattle.tf_laws.proofs.texts.refused_readings_are_one.Goals as goal

pub returns : goal.returns
returns c =
    let laws = c.laws_of_reading.ensures in
    let law = c.plans_exclude_refusals.ensures.one in
    record { read = refused_readings_one laws; lists = refusals_one laws law; applies = apply_refusals_one laws law c.readings_exclude_refusals.ensures.planned }
