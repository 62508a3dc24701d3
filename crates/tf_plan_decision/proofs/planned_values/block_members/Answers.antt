use Rattle.std.proofs.Common.{◌∙◌, ap, map}
use Rattle.tf_config_address.specs.ResourceAddr.{addr_of}
use Rattle.tf_config_address.specs.ObjectId.{instance_key_of}
use Rattle.tf_plan_decision.proofs.Listed.{listed}
use Rattle.tf_plan_decision.specs.Stage.{records_at}
use Rattle.tf_expand_keys.specs.InstanceKeys.{instance_keys}
use Rattle.tf_expand_keys.specs.Views.{shape_of}
use Rattle.tf_plan_decision.proofs.planned_values.block_members.Goals as goal
use Rattle.tf_state_data.specs.Record.{record_of}
use Rattle.tf_state_data.specs.State.{state_of}

pub returns : goal.returns
returns c = listed _ (instance_keys (shape_of c.args.shape.now)) (map record_of c.records_at.result.now) (records_at (addr_of c.args.addr.now) (state_of c.args.state.now).resources) c.members.result (ap (map instance_key_of) c.as_slice.ensures.value ∙ c.in_ok-keys.ensures) c.records_at.ensures.records c.members.ensures
