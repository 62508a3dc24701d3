use Rattle.std.proofs.Common.{drop, map}
use Rattle.tf_config_address.specs.ResourceAddr.{addr_of}
use Rattle.tf_config_refusal.specs.Place.{place_of}
use Rattle.tf_config_names.proofs.NameWalks.{IsLeft}
use Rattle.tf_config_names.specs.KnownNames.{declared_of, addr_checks}
use Rattle.tf_config_names.proofs.known_names.demand_addrs.Given as goal

abbrev pub invariant-loop-position : goal.invariant-loop-position
invariant-loop-position l = IsLeft (declared_of l.known) (addr_checks (place_of l.path) 0 (map addr_of l.addrs)) (addr_checks (place_of l.path) l.position (map addr_of (drop l.position l.addrs)))
