use Rattle.std.proofs.Common.{drop, map}
use Rattle.tf_config_refusal.specs.Place.{place_of}
use Rattle.tf_config_names.proofs.NameWalks.{IsLeft}
use Rattle.tf_config_names.specs.KnownNames.{declared_of, body_checks}
use Rattle.tf_config_names.specs.Properties.{property_view}
use Rattle.tf_config_names.proofs.known_names.demand_properties.Given as goal

abbrev pub invariant-loop-property : goal.invariant-loop-property
invariant-loop-property l = IsLeft (declared_of l.known) (body_checks (place_of l.path) (map property_view l.properties)) (body_checks (place_of l.path) (map property_view (drop l.property-index l.properties)))
