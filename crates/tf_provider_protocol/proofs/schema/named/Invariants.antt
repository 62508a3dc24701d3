use Rattle.std.proofs.Common.{◌≡◌, map, drop}
use Rattle.std.specs.Prelude.{find}
use Rattle.std.specs.Str.{bytes_eq}
use Rattle.tf_provider_protocol.specs.Schema.{attribute_of}
use Rattle.tf_provider_protocol.proofs.schema.named.Given as goal

abbrev pub invariant-loop-attribute : goal.invariant-loop-attribute
invariant-loop-attribute l =
    find (λ a. bytes_eq a.name l.name) (map attribute_of l.attributes) ≡ find (λ a. bytes_eq a.name l.name) (map attribute_of (drop l.attribute-index l.attributes))
