use Rattle.std.proofs.Common.{◌≡◌, ◌++◌, map}
use Rattle.tf_config_address.specs.ObjectId.{instance_key_of}
use Rattle.tf_plan_order.specs.Members.{member}
use Rattle.tf_plan_order.specs.MemberViews.{keys_in, member_of}
use Rattle.tf_plan_order.proofs.merging.each_member.Given as goal
use Rattle.tf_state_data.specs.Record.{record_of}

abbrev pub invariant-loop-key : goal.invariant-loop-key
invariant-loop-key l =
    let f = member (keys_in l.declared) (map record_of l.records) in
    map member_of l.members.items ++ map f (map instance_key_of l.key-iterator) ≡ map f (keys_in l.all)
