use Rattle.std.proofs.Common.{◌≡◌, map, None}
use Rattle.tf_provider_protocol.specs.Schema.{attribute_of, fault_of}
use Rattle.tf_provider_protocol.proofs.Placed.{is_schema}
use Rattle.tf_provider_protocol.proofs.schema.Schema.new.Goals as goal

pub invariant_of-result : goal.invariant_of-result
invariant_of-result c =
    let none : fault_of (map attribute_of c.args.attributes.items) ≡ None = cc (c.in-None.ensures, c.deref.ensures.value) in
    rw c.in_ok-attributes-in-None.ensures (is_schema c.args.version (map attribute_of c.args.attributes.items) none)
