use Rattle.std.proofs.Common.{◌≡◌}
use Rattle.tf_config_address.specs.ResourceAddr.{ResourceAddrView}
use Rattle.tf_config_data.specs.Names.{addr_pair}
use Rattle.tf_config_names.specs.Places.{found_in}
use Rattle.tf_plan_order.proofs.Placing.{place_from}
use Rattle.tf_plan_order.proofs.places.places_of.Given as goal

abbrev pub invariant-loop-place : goal.invariant-loop-place
invariant-loop-place l = (addr : ResourceAddrView) → found_in l.places (addr_pair addr) ≡ place_from l.numbered l.place addr
