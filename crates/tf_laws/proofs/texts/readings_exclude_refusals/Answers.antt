use Rattle.tf_laws.proofs.UnrefusedTexts.{no_refusals, read_not_refused}
use Rattle.tf_laws.proofs.texts.readings_exclude_refusals.Goals as goal

pub returns : goal.returns
returns c =
    let laws = c.laws_of_reading.ensures in
    record { read = read_not_refused laws; planned = no_refusals laws c.plans_exclude_refusals.ensures.excluded }
