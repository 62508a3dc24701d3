-- What is known of an instance's objects once its actions have ended.
use Rattle.std.specs.Option.{option_eq, option_or}
use Rattle.std.specs.Prelude.{◌≡◌, ℕ, Bool, List, Option, Some, None, find, option_map, option_and_then, if◌then◌else◌}
use Rattle.std.specs.Str.{bytes_eq}
use Rattle.tf_config_address.specs.ObjectId.{InstanceKeyView, ObjectIdView}
use Rattle.tf_state_next.specs.Ends.{SavedView, LeftView, gone, changed, unchanged, ApplyResultView, unwanted, unplanned, nothing, saved, InstanceResultView, RecordInputView}
use Rattle.tf_state_data.specs.Record.{RecordView}
use Rattle.tf_state_data.specs.Resource.{ResourceView, record_at}

-- What is known of the objects of one instance: the record of its current object, and of each deposed one by its key.
abbrev pub Places : Type 0
Places = Option (List ℕ) → Option RecordView

-- an object of an instance: the current one, or a deposed one
abbrev pub object_at : InstanceKeyView → Option (List ℕ) → ObjectIdView
object_at key deposed = record { key = key; deposed = deposed }

-- what a resource's records say of an instance
abbrev pub places_in : InstanceKeyView → List RecordView → Places
places_in key records deposed = record_at (object_at key deposed) records

-- The record of an object that a create or an update saved: it is the current one, with the record's input.
abbrev pub record_of_saved : RecordInputView → SavedView → RecordView
record_of_saved g s =
    record {
      id = object_at g.key None;
      attributes = s.0;
      schema_version = g.schema_version;
      tainted = s.1;
      dependencies = g.dependencies;
      create_before_destroy = g.create_before_destroy;
    }

-- the record of an object for which nothing was planned, with new dependencies and a new flag for a late resource
abbrev pub renewed : List (List ℕ) → Bool → RecordView → RecordView
renewed dependencies late r = record r { dependencies = dependencies; create_before_destroy = late }

-- the record of an object that became deposed: all else stays
abbrev pub as_deposed : List ℕ → RecordView → RecordView
as_deposed key r = record r { id = object_at r.id.key (Some key) }

-- what a destroy leaves of a record: nothing, the record with other attributes, or the record as it is
abbrev pub left_of_record : LeftView → RecordView → Option RecordView
left_of_record gone r = None
left_of_record (changed t) r = Some (record r { attributes = t })
left_of_record unchanged r = Some r

-- what a destroy, if there was one, leaves of a record, if there was one
abbrev pub after_destroy : Option LeftView → Option RecordView → Option RecordView
after_destroy None before = before
after_destroy (Some left) before = option_and_then (left_of_record left) before

-- The current object is the one that was saved. If no object was saved, it is what the destroy left of the old one. If
-- nothing was planned, it is the old one with new metadata.
abbrev pub current_after : RecordInputView → ApplyResultView → Option RecordView → Option RecordView
current_after g (saved s) left = Some (record_of_saved g s)
current_after g unplanned left = option_map (renewed g.dependencies g.create_before_destroy) left
current_after g nothing left = left
current_after g unwanted left = left

-- The object that was current becomes deposed under a key if that is the one given for it and an object was saved in
-- its place, unless its destroy left nothing of it.
abbrev pub deposed_anew : RecordInputView → ApplyResultView → Option RecordView → List ℕ → Option RecordView
deposed_anew g (saved s) left key = if option_eq bytes_eq g.deposed_key (Some key) then option_map (as_deposed key) left else None
deposed_anew g _ left key = None

-- the outcome of the destroy of the object that is deposed under a key, if there was one
abbrev pub destroy_under : List ℕ → List (List ℕ × LeftView) → Option LeftView
destroy_under key destroyed = option_map (λ d. d.1) (find (λ d. bytes_eq d.0 key) destroyed)

-- What is known of an instance's objects after its actions. The current object is as above. Under the key of a deposed
-- one is the object that became deposed, or else what its destroy left of the earlier one.
abbrev pub instance_after : RecordInputView → InstanceResultView → Places → Places
instance_after g ends before None = current_after g ends.applied (after_destroy ends.destroyed (before None))
instance_after g ends before (Some key) =
    option_or (deposed_anew g ends.applied (after_destroy ends.destroyed (before None)) key) (after_destroy (destroy_under key ends.deposed) (before (Some key)))

-- A resource after the actions of one of its instances. What is known of that instance's objects is as above, and of
-- those of other instances as before. The address and the provider stay.
pub record IsAfter (g : RecordInputView) (ends : InstanceResultView) (before after : ResourceView) : Type 0 where
  pub own : (deposed : Option (List ℕ)) → places_in g.key after.records deposed ≡ instance_after g ends (places_in g.key before.records) deposed
  pub others : (id : ObjectIdView) → ¬ (id.key ≡ g.key) → record_at id after.records ≡ record_at id before.records
  pub addr : after.addr ≡ before.addr
  pub provider : after.provider ≡ before.provider
