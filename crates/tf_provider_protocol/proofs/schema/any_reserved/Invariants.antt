use Rattle.std.proofs.Common.{◌≡◌, map, drop}
use Rattle.std.specs.List.{list_any}
use Rattle.tf_provider_protocol.specs.Schema.{attribute_of, is_reserved}
use Rattle.tf_provider_protocol.proofs.schema.any_reserved.Given as goal

abbrev pub invariant-loop-attribute : goal.invariant-loop-attribute
invariant-loop-attribute l =
    list_any (λ a. is_reserved a.name) (map attribute_of l.attributes) ≡ list_any (λ a. is_reserved a.name) (map attribute_of (drop l.attribute-index l.attributes))
