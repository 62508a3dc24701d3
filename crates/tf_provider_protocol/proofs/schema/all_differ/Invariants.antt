use Rattle.std.proofs.Common.{◌≡◌, map, drop}
use Rattle.tf_provider_protocol.specs.Schema.{attribute_of, names_differ}
use Rattle.tf_provider_protocol.proofs.schema.all_differ.Given as goal

abbrev pub invariant-loop-place : goal.invariant-loop-place
invariant-loop-place l =
    names_differ (map attribute_of l.attributes) ≡ names_differ (map attribute_of (drop l.place l.attributes))
