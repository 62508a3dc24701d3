use Rattle.std.proofs.Common.{◌≡◌, ◌∙◌, [], map, ap}
use Rattle.tf_config_address.specs.ObjectId.{instance_key_of}
use Rattle.tf_plan_order.proofs.Listing.{made_members, only_member}
use Rattle.tf_plan_order.proofs.InstanceOrder.{key_copied}
use Rattle.tf_plan_order.specs.Members.{all_keys, recorded_keys, with_keys}
use Rattle.tf_plan_order.specs.MemberViews.{keys_in}
use Rattle.tf_plan_order.proofs.merging.members.Goals as goal
use Rattle.tf_value_data.proofs.Copied.{copied}
use Rattle.tf_state_data.specs.Record.{record_of}

pub returns : goal.returns
returns c =
    let keys = map instance_key_of c.args.keys.now in
    let records = map record_of c.args.records.now in
    let first : keys_in c.add_keys.new.known ≡ with_keys [] keys = c.in_ok-add_keys.ensures ∙ ap (λ ks. with_keys (map instance_key_of ks) keys) c.new-declared.ensures.empty in
    let same : keys_in c.in_ok-all.all ≡ keys_in c.add_keys.new.known = copied _ instance_key_of key_copied c.add_keys.new.known.keys c.in_ok-all.all.keys c.in_ok-all.ensures.cases in
    let all : keys_in c.add_recorded.new.known ≡ all_keys keys records = c.in_ok-add_recorded.ensures ∙ ap (λ ks. with_keys ks (recorded_keys records)) (same ∙ first) in
    made_members keys (keys_in c.add_keys.new.known) (keys_in c.add_recorded.new.known) records c.each_member.result first all c.each_member.ensures

pub returns-then-is_empty : goal.returns-then-is_empty
returns-then-is_empty c = only_member c.args.keys.now c.args.records.now c.index-keys-0.result c.only_declared.result c.if-keys-eq1.true c.index-keys-0.is c.if-is_empty.ensures c.only_declared.ensures
