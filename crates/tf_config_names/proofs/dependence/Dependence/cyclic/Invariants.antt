use Rattle.std.proofs.Common.{map, string_bytes}
use Rattle.tf_config_names.proofs.Rings.{AreNoted}
use Rattle.tf_config_names.specs.Table.{names_in}
use Rattle.tf_config_names.proofs.dependence.Dependence.cyclic.Given as goal

abbrev pub invariant-loop-place : goal.invariant-loop-place
invariant-loop-place l = AreNoted (names_in l.names) l.self l.place (map string_bytes l.found.keys)
