use Rattle.tf_config_address.specs.ObjectId.{object_id_cmp}
use Rattle.tf_plan_decision.proofs.objects.records_at.Goals as goal
use Rattle.tf_state_data.proofs.Sorted.{none_sorted}

pub returns-in-None-clause-ordered : goal.returns-in-None-clause-ordered
returns-in-None-clause-ordered c = none_sorted object_id_cmp
