-- Results that were lent to be filled.
use Rattle.std.proofs.Common.{◌≡◌, ◌∙◌, ℕ, List, ◌++◌, Option, None, option_map, replicate, length, map, take, drop, sym, ap, subst}
use Rattle.std.proofs.lemmas.List.{length-map, length-replicate}
use Rattle.std.proofs.Math.Seq.{take-append_seam}
use Rattle.tf_plan_data.specs.Action.{ActionView}
use Rattle.tf_walk_action.specs.ResultViews.{action_result_of}
use Rattle.tf_walk_action.specs.declared.action_result.ActionResult.{ActionResult}

-- a list for so many actions that was lent to be filled is then what was written
pub taken-back : (new items : List (Option ActionResult)) (len nodes : ℕ) → length new ≡ nodes → items ≡ replicate nodes None → length items ≡ len → take len (new ++ drop (length new) items) ≡ new
taken-back new items len nodes sized start long =
    let filled : length new ≡ len = sized ∙ (sym (ap length start ∙ length-replicate nodes None) ∙ long) in
    subst (λ (k : ℕ). take k (new ++ drop (length new) items) ≡ new) filled (take-append_seam new (drop (length new) items))

-- results that were lent to a walk are then those that it wrote, one for each action
pub left_by_walk : (new items : List (Option ActionResult)) (len nodes : ℕ) (actions : List ActionView) → length (map (option_map action_result_of) new) ≡ length actions → length actions ≡ nodes → items ≡ replicate nodes None → length items ≡ len
    → (take len (new ++ drop (length new) items) ≡ new) × (length new ≡ nodes)
left_by_walk new items len nodes actions sized counted start long =
    let written : length new ≡ nodes = sym (length-map new (option_map action_result_of)) ∙ (sized ∙ counted) in
    (taken-back new items len nodes written start long, written)
