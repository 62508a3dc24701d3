use Rattle.std.proofs.Common.{◌∙◌, ◌+◌, ◌∷◌, map, drop, sym, ap}
use Rattle.std.proofs.lemmas.List.{at_drop_more}
use Rattle.tf_config_address.specs.ObjectId.{instance_key_of}
use Rattle.tf_plan_order.proofs.Known.{put_more}
use Rattle.tf_plan_order.proofs.InstanceOrder.{key_copied}
use Rattle.tf_plan_order.specs.Members.{with_keys}
use Rattle.tf_plan_order.specs.MemberViews.{keys_in}
use Rattle.tf_plan_order.proofs.merging.add_keys.Goals as goal

pub loop-key-preserved : goal.loop-key-preserved
loop-key-preserved c =
    let keys = c.args.keys.now in
    let key = c.key-item.result in
    let i = c.loop-key.key-index in
    let rest = map instance_key_of (drop (i + 1) keys) in
    let here = at_drop_more (λ ks. with_keys (keys_in c.loop-key.known) (map instance_key_of ks)) keys i key c.loop-key-test.true in
    put_more c.loop-key.known.keys c.insert.new.self.keys key c.in_ok-clone.field-0 c.in_ok-insert.ensures.keys (key_copied key c.in_ok-clone.field-0 c.in_ok-clone.ensures.cases) rest
    ∙ (ap (λ k. with_keys (keys_in c.loop-key.known) (instance_key_of k ∷ rest)) c.key-item.is ∙ (sym here ∙ c.loop-key.invariant))
