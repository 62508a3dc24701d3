-- What a walk on one thread begins with.
use Rattle.std.specs.Prelude.{◌≡◌, [], None, replicate}
use Rattle.tf_claim.specs.declared.book.Stage.TheVariants as stage
use Rattle.tf_config_names.specs.Table.{names_in}
use Rattle.tf_plan_data.specs.Plan.{plan_names, plan_of}
use Rattle.tf_plan_data.specs.declared.plan.Plan.{Plan}
use Rattle.tf_walk_report.specs.Reserved.{AreReserved}
use Rattle.tf_walk.specs.declared.prepared.Prepared.{Prepared}

-- the names are the configuration's, nothing has ended, nothing was called, and the report's parts are reserved
pub record IsPrepared (plan : Plan) (p : Prepared) : Type 0 where
  pub names : names_in p.names ≡ plan_names (plan_of plan)
  pub claims : p.book.graph ≡ plan.order
  pub free : p.book.stages ≡ replicate plan.order.nodes stage.Free
  pub calls : p.journal.graph ≡ plan.order
  pub none : p.journal.entries ≡ []
  pub results : p.results.items ≡ replicate plan.order.nodes None
  pub buffers : AreReserved plan p.buffers
