use Rattle.std.proofs.Common.{◌≡◌, ◌∙◌, IfOk, List, [], ap, arith, eqb-true, length, map, subst, sym, vec_len}
use Rattle.std.proofs.lemmas.List.{nil_from_length}
use Rattle.std.specs.List.{AllByRecursion}
use Rattle.tf_plan_data.specs.Plan.{plan_names, plan_of}
use Rattle.tf_state_next.specs.Events.{MetadataUpdateView, metadata_update_of}
use Rattle.tf_walk_buffers.proofs.Updated.{unchanged_below, unchanged_updated}
use Rattle.tf_walk_buffers.specs.Unchanged.{HasNumberBelow, metadata_update_of_unchanged, unchanged_record_of}
use Rattle.tf_walk_buffers.proofs.updating.metadata_updates_for.Goals as goal

pub updates_of-requires-clause-below : goal.updates_of-requires-clause-below
updates_of-requires-clause-below c =
    let plan = plan_of c.args.plan.now in
    rw c.as_slice.ensures.value (subst (AllByRecursion (HasNumberBelow (length (plan_names plan)))) (sym c.in_ok-unchanged.ensures) (unchanged_below plan))

pub returns : goal.returns
returns c =
    let plan = plan_of c.args.plan.now in
    subst (λ (us : List MetadataUpdateView). IfOk c.updates_of.result (λ found. map metadata_update_of found.items ≡ us))
    (rw c.as_slice.ensures.value (ap (map (metadata_update_of_unchanged plan)) c.in_ok-unchanged.ensures ∙ unchanged_updated plan)) c.updates_of.ensures

pub returns-then-is_empty : goal.returns-then-is_empty
returns-then-is_empty c =
    let plan = plan_of c.args.plan.now in
    let found = c.in_ok-unchanged.unchanged in
    let long : vec_len found ≡ 0 = eqb-true (vec_len found) 0 (sym c.is_empty.ensures ∙ c.if-is_empty.true) in
    let none : found.items ≡ [] = nil_from_length found.items (omega (arith, long)) in
    rw c.new.ensures.items (ap (λ us. map (metadata_update_of_unchanged plan) (map unchanged_record_of us)) (sym none) ∙ ap (map (metadata_update_of_unchanged plan)) c.in_ok-unchanged.ensures ∙ unchanged_updated plan)
