use Rattle.std.proofs.Common.{map}
use Rattle.tf_config_names.proofs.Tests.{AreBelow}
use Rattle.tf_config_names.specs.Properties.{property_view}
use Rattle.tf_config_names.proofs.properties.below.Given as goal

abbrev pub invariant-loop-at : goal.invariant-loop-at
invariant-loop-at l = AreBelow l.name (map property_view l.body) l.at
