use Rattle.tf_config_data.specs.Config.{blocks_of}
use Rattle.tf_config_names.proofs.NameWalks.{IsLeft}
use Rattle.tf_config_names.specs.KnownNames.{declared_of, block_checks}
use Rattle.tf_config_names.proofs.known_names.demand_blocks.Given as goal

abbrev pub invariant-loop-addr : goal.invariant-loop-addr
invariant-loop-addr l = IsLeft (declared_of l.known) (block_checks (blocks_of l.blocks.entries)) (block_checks (blocks_of l.addr-iterator))
