-- The order of records and resources, and which resources are part of a state.
use Rattle.std.specs.Prelude.{Bool, true, false, List, [], ◌∷◌, filter}
use Rattle.std.specs.declared.cmp.Ordering.{Ordering}
use Rattle.tf_config_address.specs.ResourceAddr.{addr_cmp}
use Rattle.tf_config_address.specs.ObjectId.{object_id_cmp}
use Rattle.tf_state_data.specs.Record.{RecordView}
use Rattle.tf_state_data.specs.Resource.{ResourceView}

-- records are ordered by their ids, resources by their addresses
abbrev pub record_cmp : RecordView → RecordView → Ordering
record_cmp a b = object_id_cmp a.id b.id

abbrev pub resource_cmp : ResourceView → ResourceView → Ordering
resource_cmp a b = addr_cmp a.addr b.addr

abbrev pub is_some_record : List RecordView → Bool
is_some_record [] = false
is_some_record (r ∷ rs) = true

-- a resource without records is no part of the state
abbrev pub with_records : List ResourceView → List ResourceView
with_records = filter (λ r. is_some_record r.records)
