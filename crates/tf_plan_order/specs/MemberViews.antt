-- Members as plain data.
use Rattle.std.specs.Prelude.{List, map}
use Rattle.std.specs.BTreeSet.{BTreeSet}
use Rattle.tf_config_address.specs.ObjectId.{InstanceKeyView, instance_key_of}
use Rattle.tf_config_address.specs.declared.object_id.InstanceKey.{InstanceKey}
use Rattle.tf_plan_order.specs.Members.{InstanceToPlanView}
use Rattle.tf_plan_order.specs.declared.instance_to_plan.InstanceToPlan.{InstanceToPlan}
use Rattle.tf_state_data.specs.Record.{record_of}

abbrev pub member_of : InstanceToPlan → InstanceToPlanView
member_of m = record { key = instance_key_of m.key; is_declared = m.is_declared; records = map record_of m.records.now }

-- the keys in a set, in order
abbrev pub keys_in : BTreeSet InstanceKey → List InstanceKeyView
keys_in s = map instance_key_of s.keys
