use Rattle.std.proofs.Common.{◌≡◌, map, drop}
use Rattle.tf_provider_protocol.specs.Schema.{attribute_of, name_is_in}
use Rattle.tf_provider_protocol.proofs.schema.is_among.Given as goal

abbrev pub invariant-loop-attribute : goal.invariant-loop-attribute
invariant-loop-attribute l =
    name_is_in (map attribute_of l.attributes) l.name ≡ name_is_in (map attribute_of (drop l.attribute-index l.attributes)) l.name
