use Rattle.tf_laws.proofs.Planning.{applies_show, one_plan, one_plan_apart, one_text}
use Rattle.tf_laws.proofs.texts.texts_have_one_plan.Goals as goal

pub returns : goal.returns
returns c =
    let laws = c.laws_of_reading.ensures in
    let plans = c.plans_are_one.ensures.plans in
    let shown = c.plans_are_one.ensures.texts in
    record { plans = one_plan laws plans; apart = one_plan_apart laws plans; texts = one_text laws shown; applies = applies_show laws shown }
