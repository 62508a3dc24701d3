use Rattle.std.proofs.Common.{◌≡◌, map, drop}
use Rattle.std.specs.List.{list_all}
use Rattle.tf_config_address.specs.Name.{is_name}
use Rattle.tf_provider_protocol.specs.Schema.{attribute_of}
use Rattle.tf_provider_protocol.proofs.schema.all_named.Given as goal

abbrev pub invariant-loop-attribute : goal.invariant-loop-attribute
invariant-loop-attribute l =
    list_all (λ a. is_name a.name) (map attribute_of l.attributes) ≡ list_all (λ a. is_name a.name) (map attribute_of (drop l.attribute-index l.attributes))
