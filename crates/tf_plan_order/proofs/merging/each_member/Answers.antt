use Rattle.std.proofs.Common.{◌∙◌, map}
use Rattle.std.proofs.lemmas.Map.Iter.{rest_more}
use Rattle.std.specs.Map.Iter.{deref}
use Rattle.tf_plan_order.proofs.Known.{found}
use Rattle.tf_plan_order.proofs.Listing.{next_member}
use Rattle.tf_plan_order.proofs.InstanceOrder.{key_copied}
use Rattle.tf_plan_order.proofs.merging.each_member.Goals as goal
use Rattle.tf_state_data.specs.Record.{record_of}

pub loop-key-preserved : goal.loop-key-preserved
loop-key-preserved c =
    let key = c.in-Some.key.now in
    let taken = rest_more deref c.loop-key.key-iterator c.next.new.self c.next.result c.in-Some.key c.in-Some.is c.next.ensures.steps in
    next_member c.loop-key.members.items c.push.new.self.items (record { key = c.in_ok-clone.field-0; is_declared = c.contains.result; records = c.records_of.result }) c.args.declared.now.keys c.loop-key.key-iterator c.next.new.self key
    (map record_of c.args.records.now) c.in_ok-push.ensures.items taken (key_copied key c.in_ok-clone.field-0 c.in_ok-clone.ensures.cases) (c.contains.ensures ∙ found c.args.declared.now.keys key) c.records_of.ensures
    ∙ c.loop-key.invariant
