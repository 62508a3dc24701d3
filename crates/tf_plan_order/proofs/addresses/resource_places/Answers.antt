use Rattle.std.proofs.Common.{◌∙◌, ◌++◌, ◌∷◌, [], ap, sym}
use Rattle.tf_plan_order.proofs.PlacesInOrder.{one_more, none_more}
use Rattle.tf_plan_order.specs.AddressOrder.{is_resource}
use Rattle.tf_plan_order.proofs.addresses.resource_places.Goals as goal
use Rattle.tf_plan_order.proofs.addresses.resource_places.Goals.{then-is_resource+in_ok-push, else-is_resource}
use Rattle.tf_plan_order.specs.Table.{numbered_in}

pub loop-place-preserved : goal.loop-place-preserved
loop-place-preserved c =
    let all = numbered_in c.args.resource_index.now in
    let place = c.loop-place.place in
    elim c.if-is_resource.branch [
      | then-is_resource+in_ok-push w ↦
          ap (λ v. v.items) w.places-is
          ∙ (w.in_ok-push.ensures.items ∙ (ap (λ xs. xs ++ place ∷ []) c.loop-place.invariant ∙ sym (one_more (is_resource all) place (sym c.is_resource.ensures ∙ w.if-is_resource.true))))
      | else-is_resource w ↦
          ap (λ v. v.items) w.places-is ∙ (c.loop-place.invariant ∙ sym (none_more (is_resource all) place (sym c.is_resource.ensures ∙ w.if-is_resource.false)))
    ]
