use Rattle.tf_plan_data.specs.Plan.{plan_of}
use Rattle.tf_cli.proofs.Carried.{applied_then}
use Rattle.tf_cli.proofs.applying.apply_one.Goals as goal

pub returns-in-Ok-clause-applied : goal.returns-in-Ok-clause-applied
returns-in-Ok-clause-applied g c =
    applied_then _ _ c.args.lineage.now (plan_of c.in-Ok.planned) c.in-Ok.ensures.planned c.apply_plan_one.result c.apply_plan_one.ensures.carried_out
