-- What holds of the members of each resource.
use Rattle.std.specs.Prelude.{◌≡◌, List}
use Rattle.tf_config_address.specs.ObjectId.{InstanceKeyView}
use Rattle.tf_plan_order.specs.Members.{InstanceToPlanView, AreMembers, members}
use Rattle.tf_state_data.specs.Record.{RecordView}

-- There is a list of members, whatever the configuration and the state have.
abbrev pub MembersAreThere : Type 0
MembersAreThere = (keys : List InstanceKeyView) (records : List RecordView) → AreMembers keys records (members keys records)

-- And it is unique.
abbrev pub MembersAreOne : Type 0
MembersAreOne =
    (keys : List InstanceKeyView) (records : List RecordView) (some others : List InstanceToPlanView) → AreMembers keys records some → AreMembers keys records others
    → some ≡ others
