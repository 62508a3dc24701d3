use Rattle.std.proofs.Common.{◌≡◌, ◌∙◌, ◌∷◌, [], ◌<◌, Err, List, ap, map, length}
use Rattle.tf_plan_data.specs.Action.{action_of}
use Rattle.tf_plan_planner.proofs.Refusing.{tells-weaker}
use Rattle.tf_plan_planner.specs.Ordered.{action_pairs, max_pairs, ties_by}
use Rattle.tf_plan_planner.specs.Refused.{AreManyPairsBy}
use Rattle.tf_config_refusal.specs.Refusal.{RefusalView, refusal_of}
use Rattle.tf_plan_planner.proofs.ordering.order_by.Goals as goal

pub returns-clause-refused : goal.returns-clause-refused
returns-clause-refused c =
    let ties = ties_by c.args.dependence.now c.args.stored.now c.args.late.now in
    let t = refusal_of c.in_ok-beyond-in-Err-TooMany.beyond in
    let many : max_pairs < length (action_pairs ties (map action_of c.args.actions.now)) =
    rw (c.table.ensures, c.table-2.ensures, c.as_slice.ensures.value, c.in_ok-ordered.ensures) at (c.in-Err-TooMany.ensures.too_many (ap Err c.in-Err-TooMany.field-0-is)) in
    tells-weaker (λ (refusal_views : List RefusalView). refusal_views ≡ t ∷ []) (AreManyPairsBy ties (map action_of c.args.actions.now)) c.in_ok-alone-in-Err-TooMany.field-0
    (λ refusal_views is. (many, is ∙ ap (λ u. u ∷ []) c.in_ok-beyond-in-Err-TooMany.ensures)) c.in_ok-alone-in-Err-TooMany.ensures
