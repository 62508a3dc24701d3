use Rattle.tf_config_address.specs.ResourceAddr.{addr_cmp}
use Rattle.tf_state.proofs.Orders.{nothing_ordered}
use Rattle.tf_state.proofs.resource_reading.read_resources.Goals as goal

-- no resources are in order
pub returns-in-None-clause-ordered : goal.returns-in-None-clause-ordered
returns-in-None-clause-ordered c = rw c.new.ensures.items (nothing_ordered addr_cmp)
