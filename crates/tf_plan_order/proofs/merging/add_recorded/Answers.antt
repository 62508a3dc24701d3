use Rattle.std.proofs.Common.{◌∙◌, ◌+◌, ◌∷◌, map, drop, sym, ap}
use Rattle.std.proofs.lemmas.List.{at_drop_more}
use Rattle.tf_config_address.specs.ObjectId.{instance_key_of}
use Rattle.tf_plan_order.proofs.Known.{put_more}
use Rattle.tf_plan_order.proofs.InstanceOrder.{key_copied}
use Rattle.tf_plan_order.specs.Members.{recorded_keys, with_keys}
use Rattle.tf_plan_order.specs.MemberViews.{keys_in}
use Rattle.tf_plan_order.proofs.merging.add_recorded.Goals as goal
use Rattle.tf_state_data.specs.Record.{record_of}

pub loop-kept-preserved : goal.loop-kept-preserved
loop-kept-preserved c =
    let known = c.loop-kept.known in
    let records = c.args.records.now in
    let kept = c.kept-item.result in
    let i = c.loop-kept.kept-index in
    let rest = recorded_keys (map record_of (drop (i + 1) records)) in
    let here = at_drop_more (λ rs. with_keys (keys_in known) (recorded_keys (map record_of rs))) records i kept c.loop-kept-test.true in
    put_more known.keys c.insert.new.self.keys kept.id.key c.in_ok-clone.field-0 c.in_ok-insert.ensures.keys (key_copied kept.id.key c.in_ok-clone.field-0 c.in_ok-clone.ensures.cases) rest
    ∙ (ap (λ r. with_keys (keys_in known) (instance_key_of r.id.key ∷ rest)) c.kept-item.is ∙ (sym here ∙ c.loop-kept.invariant))
