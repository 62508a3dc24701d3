use Rattle.tf_config_json.proofs.BlockLaws.{blocks_in_order}
use Rattle.tf_config_json.proofs.laws.blocks_are_in_order.Goals as goal

pub returns : goal.returns
returns c = record { order = blocks_in_order }
