use Rattle.serde_json.specs.View.{view}
use Rattle.tf_config_json.proofs.Found.{value_missing}
use Rattle.tf_config_json.proofs.bodies.read_output.Goals as goal

pub returns-in-None : goal.returns-in-None
returns-in-None c = absurd (value_missing (view c.args.part.now.value.now) c.in_ok-demand_value.ensures.0 (rw c.in-None.is at c.in_ok-add_members.ensures))
