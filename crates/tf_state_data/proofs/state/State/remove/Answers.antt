use Rattle.std.proofs.Common.{List, ap}
use Rattle.tf_config_address.specs.ResourceAddr.{addr_of}
use Rattle.tf_state_data.specs.Resource.{ResourceView}
use Rattle.tf_state_data.specs.State.{state_of}
use Rattle.tf_state_data.proofs.Edits.{by_address, element_found, taken_out, taken_out_ordered}
use Rattle.tf_state_data.proofs.state.State.remove.Goals as goal

pub invariant_of-self : goal.invariant_of-self
invariant_of-self c = record { ordered = taken_out_ordered by_address (addr_of c.args.addr.now) c.args.self.now.resources.items _ c.in-Ok.index c.in-Ok.ensures.found c.remove.ensures.items c.args.self.now.ordered }

pub returns-in-Ok-clause-taken : goal.returns-in-Ok-clause-taken
returns-in-Ok-clause-taken c = element_found by_address (addr_of c.args.addr.now) c.args.self.now.resources.items c.in-Ok.index c.remove.result c.in-Ok.ensures.found c.remove.ensures.value

pub returns-in-Ok-clause-left : goal.returns-in-Ok-clause-left
returns-in-Ok-clause-left c =
    ap (λ (rs : List ResourceView). record (state_of c.args.self.now) { resources = rs }) (taken_out by_address (addr_of c.args.addr.now) c.args.self.now.resources.items _ c.in-Ok.index c.in-Ok.ensures.found c.remove.ensures.items)
