use Rattle.tf_config_address.specs.ResourceAddr.{addr_of}
use Rattle.tf_config_refusal.proofs.Places.{place_of-Root, place_of-Member}
use Rattle.tf_config_names.proofs.known_names.demand_resource.Goals as goal

pub returns : goal.returns
returns c = rw (place_of-Member, place_of-Member, place_of-Member, place_of-Root, c.as_str.ensures.value, c.as_str-2.ensures.value) at (c.demand_block.ensures (addr_of c.args.addr.now))
