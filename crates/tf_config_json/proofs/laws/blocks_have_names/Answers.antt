use Rattle.tf_config_json.proofs.BlockLaws.{blocks_named}
use Rattle.tf_config_json.proofs.laws.blocks_have_names.Goals as goal

pub returns : goal.returns
returns c = blocks_named
