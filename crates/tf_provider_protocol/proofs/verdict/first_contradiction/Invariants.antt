use Rattle.std.proofs.Common.{◌≡◌, map, drop}
use Rattle.std.specs.List.{position_from}
use Rattle.tf_value_data.specs.Tree.{tree_of}
use Rattle.tf_provider_protocol.specs.Schema.{attribute_of}
use Rattle.tf_provider_protocol.specs.Verdict.{contradicts_at}
use Rattle.tf_provider_protocol.proofs.verdict.first_contradiction.Given as goal

abbrev pub invariant-loop-place : goal.invariant-loop-place
invariant-loop-place l =
    position_from (contradicts_at (tree_of l.wanted) (tree_of l.there)) 0 (map attribute_of l.attributes)
    ≡ position_from (contradicts_at (tree_of l.wanted) (tree_of l.there)) l.place (map attribute_of (drop l.place l.attributes))
