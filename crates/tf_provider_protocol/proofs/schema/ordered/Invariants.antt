use Rattle.std.proofs.Common.{◌≡◌, map, vec_len}
use Rattle.tf_provider_protocol.specs.Schema.{attribute_of, in_order}
use Rattle.tf_provider_protocol.proofs.Placed.{placed_all}
use Rattle.tf_provider_protocol.proofs.schema.ordered.Given as goal

abbrev pub invariant-loop-attribute : goal.invariant-loop-attribute
invariant-loop-attribute l =
    placed_all (map attribute_of l.done.items) (map attribute_of l.attributes.items) ≡ in_order (map attribute_of l.fn.attributes.items)

abbrev pub decreases-loop-attribute : goal.decreases-loop-attribute
decreases-loop-attribute l = vec_len l.attributes
