-- no block so far is at the address
use Rattle.std.proofs.Common.{◌≡◌}
use Rattle.tf_config_address.specs.ResourceAddr.{addr_of}
use Rattle.tf_config_data.specs.Config.{blocks_of}
use Rattle.tf_plan_json.specs.Reasons.{repetition_at}
use Rattle.tf_plan_json.proofs.reasons.repetition_at.Given as goal

abbrev pub invariant-loop-other : goal.invariant-loop-other
invariant-loop-other l = repetition_at (addr_of l.addr) (blocks_of l.other-iterator) ≡ repetition_at (addr_of l.addr) (blocks_of l.config.resources.entries)
