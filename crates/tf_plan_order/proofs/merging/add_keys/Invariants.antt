use Rattle.std.proofs.Common.{◌≡◌, map, drop}
use Rattle.tf_config_address.specs.ObjectId.{instance_key_of}
use Rattle.tf_plan_order.specs.Members.{with_keys}
use Rattle.tf_plan_order.specs.MemberViews.{keys_in}
use Rattle.tf_plan_order.proofs.merging.add_keys.Given as goal

abbrev pub invariant-loop-key : goal.invariant-loop-key
invariant-loop-key l = with_keys (keys_in l.known) (map instance_key_of (drop l.key-index l.keys)) ≡ with_keys (keys_in l.fn.known) (map instance_key_of l.keys)
