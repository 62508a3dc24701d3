use Rattle.std.proofs.Common.{◌<◌, ◌∙◌, List, ap, length, map, subst, sym}
use Rattle.std.specs.List.{AllByRecursion}
use Rattle.tf_config_data.specs.Names.{NameView}
use Rattle.tf_plan_data.specs.Plan.{plan_names, plan_of}
use Rattle.tf_walk_buffers.proofs.Lists.{all-at}
use Rattle.tf_walk_buffers.specs.Needed.{AreListedAsked}
use Rattle.tf_walk_buffers.specs.Unchanged.{HasNumberBelow, IsResourceAsked, unchanged_record_of}
use Rattle.tf_walk_buffers.proofs.updating.updates_of.Goals as goal

pub asked_for-requires : goal.asked_for-requires
asked_for-requires c =
    let long = c.len.ensures ∙ ap (λ (xs : List NameView). length xs) c.requires.names in
    subst (λ k. AllByRecursion (HasNumberBelow k) (map unchanged_record_of c.args.unchanged.now)) (sym long) c.requires.below

pub update_of-requires-clause-listed : goal.update_of-requires-clause-listed
update_of-requires-clause-listed c =
    let plan = plan_of c.args.plan.now in
    let asked = c.in_ok-asked.asked in
    let one = c.one-item.result in
    let i = c.loop-one.one-index in
    let listed : AreListedAsked plan.needs (plan_names plan) asked c.in_ok-lists.lists.items = rw (← c.requires.names) c.in_ok-lists.ensures in
    let is_asked : IsResourceAsked asked (unchanged_record_of one) = all-at (IsResourceAsked asked) unchanged_record_of c.args.unchanged.now i one c.loop-one-test.true c.one-item.is c.in_ok-asked.ensures.asked in
    let below : one.number < length (plan_names plan) =
    all-at (HasNumberBelow (length (plan_names plan))) unchanged_record_of c.args.unchanged.now i one c.loop-one-test.true c.one-item.is c.requires.below in
    rw c.as_slice.ensures.value (listed one.number below is_asked)
