-- The order of records by id, without duplicates.
use Rattle.std.specs.Prelude.{List, map}
use Rattle.std.specs.List.Sorted.{IsStrictlySortedBy}
use Rattle.tf_config_address.specs.ObjectId.{ObjectIdView, object_id_cmp}
use Rattle.tf_state_data.specs.Record.{RecordView}

-- the ids of the objects that records are of
abbrev pub ids_of : List RecordView → List ObjectIdView
ids_of = map (λ r. r.id)

-- records are in the order of their ids, no two with the same one
abbrev pub AreById : List RecordView → Type 0
AreById rs = IsStrictlySortedBy object_id_cmp (ids_of rs)
