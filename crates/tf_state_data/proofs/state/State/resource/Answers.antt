use Rattle.tf_config_address.specs.ResourceAddr.{addr_of}
use Rattle.tf_state_data.proofs.Edits.{by_address, element_found}
use Rattle.tf_state_data.proofs.state.State.resource.Goals as goal

pub returns-in-Ok : goal.returns-in-Ok
returns-in-Ok c = element_found by_address (addr_of c.args.addr.now) c.args.self.now.resources.items c.in-Ok.index c.index.result.now c.in-Ok.ensures.found c.index.ensures
