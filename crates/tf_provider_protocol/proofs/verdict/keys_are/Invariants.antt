use Rattle.std.proofs.Common.{◌≡◌, length, map}
use Rattle.tf_value_data.specs.Tree.{entries_view, keys_of}
use Rattle.tf_provider_protocol.specs.Schema.{attribute_of}
use Rattle.tf_provider_protocol.specs.Verdict.{same_names}
use Rattle.tf_provider_protocol.proofs.verdict.keys_are.Given as goal

abbrev pub invariant-loop-key : goal.invariant-loop-key
invariant-loop-key l = record {
  same_length : length l.key-iterator.a ≡ length l.key-iterator.b.rest.now;
  left : same_names (keys_of (entries_view l.entries.entries)) (map (λ a. a.name) (map attribute_of l.attributes))
      ≡ same_names (keys_of (entries_view l.key-iterator.a)) (map (λ a. a.name) (map attribute_of l.key-iterator.b.rest.now));
}
