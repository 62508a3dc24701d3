use Rattle.std.proofs.Common.{◌≡◌, map, string_bytes, take}
use Rattle.tf_config_names.specs.Table.{names_in}
use Rattle.tf_walk_buffers.specs.Dependencies.{addresses_at}
use Rattle.tf_walk_buffers.proofs.dependencies.addresses_at.Given as goal

abbrev pub invariant-loop-place : goal.invariant-loop-place
invariant-loop-place l = map string_bytes l.found.items ≡ addresses_at (names_in l.names) (take l.place-index l.places)
