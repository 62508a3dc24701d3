use Rattle.std.proofs.Common.{◌≡◌, map, drop}
use Rattle.std.specs.List.{list_all}
use Rattle.tf_value_data.specs.Tree.{tree_of}
use Rattle.tf_provider_protocol.specs.Schema.{attribute_of}
use Rattle.tf_provider_protocol.specs.Verdict.{fits_in}
use Rattle.tf_provider_protocol.proofs.verdict.all_fit.Given as goal

abbrev pub invariant-loop-attribute : goal.invariant-loop-attribute
invariant-loop-attribute l =
    list_all (fits_in (tree_of l.value)) (map attribute_of l.attributes) ≡ list_all (fits_in (tree_of l.value)) (map attribute_of (drop l.attribute-index l.attributes))
