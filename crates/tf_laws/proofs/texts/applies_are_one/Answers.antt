use Rattle.tf_laws.proofs.Applying.{Telling, applies_one}
use Rattle.tf_laws.proofs.texts.applies_are_one.Goals as goal

pub returns : goal.returns
returns c =
    let laws = c.laws_of_reading.ensures in
    let more : Telling = record {
      plans = c.plans_are_one.ensures.plans;
      texts = c.plans_are_one.ensures.texts;
      founded = c.plans_are_founded.ensures.planned;
      reports = c.reports_are_one.ensures;
    } in
    applies_one laws more
