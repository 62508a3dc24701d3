-- The instances of a resource, from the configuration and the state together.
use Rattle.std.specs.Prelude.{◌≡◌, Bool, true, ◌||◌, List, [], map, filter, fold, Contains}
use Rattle.std.specs.BTreeSet.{insert_key}
use Rattle.std.specs.List.{list_any}
use Rattle.std.specs.List.Sorted.{IsStrictlySortedBy}
use Rattle.tf_config_address.specs.ObjectId.{InstanceKeyView, instance_key_cmp}
use Rattle.tf_config_address.specs.Same.{same_instance_key}
use Rattle.tf_state_data.specs.Record.{RecordView}

-- An instance of a resource: whether the configuration has it, and the records of its objects.
pub record InstanceToPlanView : Type 0 where
  pub key : InstanceKeyView
  pub is_declared : Bool
  pub records : List RecordView

-- an instance is one of these
abbrev pub is_among : List InstanceKeyView → InstanceKeyView → Bool
is_among keys key = list_any (λ other. same_instance_key other key) keys

-- a record belongs to an object of an instance
abbrev pub is_of : InstanceKeyView → RecordView → Bool
is_of key r = same_instance_key r.id.key key

-- the records of an instance's objects among those of its resource, in their order: the current one before the deposed ones
abbrev pub records_of : InstanceKeyView → List RecordView → List RecordView
records_of key records = filter (is_of key) records

-- there is a record of some object of an instance
abbrev pub is_recorded : List RecordView → InstanceKeyView → Bool
is_recorded records key = list_any (is_of key) records

-- the keys of members
abbrev pub keys_of : List InstanceToPlanView → List InstanceKeyView
keys_of members = map (λ m. m.key) members

-- The members of a resource for which the configuration has instances with the given keys and the state the given
-- records: all instances of both, each once, in address order.
pub record AreMembers (keys : List InstanceKeyView) (records : List RecordView) (members : List InstanceToPlanView) : Type 0 where
  -- they are in address order, each once
  pub sorted : IsStrictlySortedBy instance_key_cmp (keys_of members)
  -- an instance is a member exactly if the configuration has it, or there is a record of it
  pub there : (key : InstanceKeyView) → is_among (keys_of members) key ≡ (is_among keys key || is_recorded records key)
  -- each says correctly whether the configuration has it
  pub declared : (m : InstanceToPlanView) → Contains members m → m.is_declared ≡ is_among keys m.key
  -- and has exactly the records of its objects, in their order
  pub recorded : (m : InstanceToPlanView) → Contains members m → m.records ≡ records_of m.key records

-- the one instance of a resource without records
abbrev pub declared_alone : InstanceKeyView → InstanceToPlanView
declared_alone key = record { key = key; is_declared = true; records = [] }

-- ---- the same members as a computed list

-- the member of an instance
abbrev pub member : List InstanceKeyView → List RecordView → InstanceKeyView → InstanceToPlanView
member keys records key = record { key = key; is_declared = is_among keys key; records = records_of key records }

-- keys with some more, each at its place in address order and each once
abbrev pub with_keys : List InstanceKeyView → List InstanceKeyView → List InstanceKeyView
with_keys known keys = fold (insert_key instance_key_cmp) known keys

-- the keys of the recorded instances
abbrev pub recorded_keys : List RecordView → List InstanceKeyView
recorded_keys records = map (λ r. r.id.key) records

-- the keys of all instances that the configuration has or that are recorded
abbrev pub all_keys : List InstanceKeyView → List RecordView → List InstanceKeyView
all_keys keys records = with_keys (with_keys [] keys) (recorded_keys records)

-- the members
abbrev pub members : List InstanceKeyView → List RecordView → List InstanceToPlanView
members keys records = map (member keys records) (all_keys keys records)
