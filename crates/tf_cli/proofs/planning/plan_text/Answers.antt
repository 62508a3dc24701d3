use Rattle.std.proofs.Common.{[]}
use Rattle.tf_plan_data.specs.Plan.{plan_of}
use Rattle.tf_cli.proofs.Shown.{plan_shown}
use Rattle.tf_cli.proofs.planning.plan_text.Goals as goal

pub returns-in-Ok-clause-planned : goal.returns-in-Ok-clause-planned
returns-in-Ok-clause-planned g c =
    plan_shown _ _ [] (plan_of c.in-Ok.planned) c.in-Ok.ensures.planned c.text_of.result c.text_of.ensures.shown
