use Rattle.std.proofs.Common.{◌≡◌, Some, not, ap}
use Rattle.tf_value_data.specs.Tree.{tree_of, part_at}
use Rattle.tf_value_data.specs.Refinement.{refined}
use Rattle.tf_value_data.proofs.Refining.{refined-answer}
use Rattle.tf_provider_protocol.proofs.verdict.contradicts.Goals as goal

pub returns-in-Some-Some : goal.returns-in-Some-Some
returns-in-Some-Some c =
    let answer : c.refines.result ≡ refined (tree_of c.in-Some-Some.value.now) (tree_of c.in-Some-Some.other.now) =
    refined-answer c.refines.result _ _ c.refines.ensures in
    let wanted : Some (tree_of c.in-Some-Some.value.now) ≡ part_at c.as_str-name.result.now (tree_of c.args.wanted.now) = c.in-Some-Some.ensures in
    let there : Some (tree_of c.in-Some-Some.other.now) ≡ part_at c.as_str-name.result.now (tree_of c.args.there.now) = c.in-Some-Some.ensures' in
    rw (← c.as_str-name.ensures.value, ← wanted, ← there) (ap not answer)
