-- A resource and its records, as plain data.
use Rattle.std.specs.Option.{option_map_or}
use Rattle.std.specs.Prelude.{◌+◌, ◌≤◌, ℕ, Bool, List, Option, map, string_bytes, vec_len, vec_capacity}
use Rattle.tf_config_address.specs.ResourceAddr.{ResourceAddrView, addr_of}
use Rattle.tf_state_data.specs.Order.{at_key, with_one, without_one}
use Rattle.tf_config_address.specs.ObjectId.{ObjectIdView, object_id_cmp}
use Rattle.tf_state_data.specs.Record.{RecordView, record_of}
use Rattle.tf_state_data.specs.declared.resource.Resource.{Resource}

-- a resource and its objects
pub record ResourceView : Type 0 where
  pub addr : ResourceAddrView
  pub provider : List ℕ
  pub records : List RecordView

abbrev pub resource_of : Resource → ResourceView
resource_of r = record { addr = addr_of r.addr; provider = string_bytes r.provider; records = map record_of r.records.items }

-- the record of an object
abbrev pub record_at : ObjectIdView → List RecordView → Option RecordView
record_at = at_key (λ r. r.id) object_id_cmp

-- the resource with a record, whether one of the same object was there or not
abbrev pub with_record : RecordView → ResourceView → ResourceView
with_record new r = record r { records = with_one (λ x. x.id) object_id_cmp new r.records }

-- the resource without the record of an object
abbrev pub without_record : ObjectIdView → ResourceView → ResourceView
without_record id r = record r { records = without_one (λ x. x.id) object_id_cmp id r.records }

-- the resource with new dependencies and a new flag in the record of an object, if it has one
abbrev pub with_metadata : ObjectIdView → List (List ℕ) → Bool → ResourceView → ResourceView
with_metadata id dependencies late r =
    option_map_or (λ x. with_record (record x { id = id; dependencies = dependencies; create_before_destroy = late }) r) (record_at id r.records) r

-- there is capacity for n more records
abbrev pub HasRoomForRecords : ℕ → Resource → Type 0
HasRoomForRecords n r = vec_len r.records + n ≤ vec_capacity r.records
