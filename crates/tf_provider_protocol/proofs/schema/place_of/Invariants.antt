use Rattle.std.proofs.Common.{◌≡◌, ◌+◌, map, drop}
use Rattle.tf_provider_protocol.specs.Schema.{attribute_of, place_in}
use Rattle.tf_provider_protocol.proofs.schema.place_of.Given as goal

abbrev pub invariant-loop-index : goal.invariant-loop-index
invariant-loop-index l =
    place_in (map attribute_of l.attributes) l.name ≡ place_in (map attribute_of (drop l.index l.attributes)) l.name + l.index
