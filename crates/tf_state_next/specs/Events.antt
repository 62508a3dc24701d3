-- The outcomes of an apply's actions, as plain data, and what they say of each instance.
use Rattle.std.specs.Prelude.{◌≡◌, ℕ, Bool, false, ◌&&◌, if◌then◌else◌, List, [], ◌∷◌, ◌++◌, map, find, Option, None, option_map, ⊤}
use Rattle.std.specs.List.{AllByRecursion, filter_map}
use Rattle.std.specs.Option.{option_map_or}
use Rattle.tf_config_address.specs.ResourceAddr.{ResourceAddrView, addr_of}
use Rattle.tf_config_address.specs.ObjectId.{InstanceKeyView, ObjectIdView, object_id_of}
use Rattle.tf_config_address.specs.Same.{same_instance_key, same_addr, same_object_id}
use Rattle.tf_state_next.specs.declared.events.Apply.{Apply}
use Rattle.tf_state_next.specs.declared.events.Destroy.{Destroy}
use Rattle.tf_state_next.specs.declared.events.Events.{Events}
use Rattle.tf_state_next.specs.declared.events.MetadataUpdate.{MetadataUpdate}
use Rattle.tf_state_next.specs.After.{object_at}
use Rattle.tf_state_next.specs.Ends.{LeftView, left_of, ApplyResultView, unwanted, unplanned, as_applied, saved_of, InstanceResultView, RecordInputView, record_input_of}

-- the outcome of the create or the update of an instance
pub record ApplyView : Type 0 where
  pub addr : ResourceAddrView
  pub given : RecordInputView
  pub applied : ApplyResultView

-- the outcome of the destroy of an object
pub record DestroyView : Type 0 where
  pub addr : ResourceAddrView
  pub id : ObjectIdView
  pub left : LeftView

-- new metadata for an instance that is wanted and for which no create or update was planned
pub record MetadataUpdateView : Type 0 where
  pub addr : ResourceAddrView
  pub given : RecordInputView

pub record EventsView : Type 0 where
  pub destroys : List DestroyView
  pub applies : List ApplyView
  pub metadata_updates : List MetadataUpdateView

-- ---- what each event is about

-- A metadata update is like an apply for which nothing was planned.
abbrev pub as_apply : MetadataUpdateView → ApplyView
as_apply r = record { addr = r.addr; given = r.given; applied = unplanned }

-- the outcomes of the wanted instances
abbrev pub wanted : EventsView → List ApplyView
wanted e = e.applies ++ map as_apply e.metadata_updates

-- the instance that an apply is about
abbrev pub instance_of : ApplyView → ResourceAddrView × InstanceKeyView
instance_of a = (a.addr, a.given.key)

-- the object that a destroy is about
abbrev pub object_of : DestroyView → ResourceAddrView × ObjectIdView
object_of d = (d.addr, d.id)

-- no two are about the same
abbrev pub AreApart : {A B : Type 0} → (A → B) → List A → Type 0
AreApart about [] = ⊤
AreApart about (x ∷ xs) = AllByRecursion (λ y. ¬ (about x ≡ about y)) xs × AreApart about xs

-- No two destroys are about one object, and no two other events about one instance.
pub record AreEachAboutOne (e : EventsView) : Type 0 where
  pub destroys : AreApart object_of e.destroys
  pub wanted : AreApart instance_of (wanted e)

-- ---- what the events say of an instance

abbrev pub is_instance : ResourceAddrView → InstanceKeyView → ResourceAddrView → InstanceKeyView → Bool
is_instance addr key l k = same_addr l addr && same_instance_key k key

-- the apply of an instance, if there is one
abbrev pub apply_of_instance : ResourceAddrView → InstanceKeyView → List ApplyView → Option ApplyView
apply_of_instance addr key = find (λ a. is_instance addr key a.addr a.given.key)

-- what the destroy of an object left of it, if there is one
abbrev pub left_of_object : ResourceAddrView → ObjectIdView → List DestroyView → Option LeftView
left_of_object addr id destroys = option_map (λ d. d.left) (find (λ d. same_addr d.addr addr && same_object_id d.id id) destroys)

-- a destroy of a deposed object of an instance: its key, and what is left of it
abbrev pub left_of_deposed : ResourceAddrView → InstanceKeyView → DestroyView → Option (List ℕ × LeftView)
left_of_deposed addr key d = if is_instance addr key d.addr d.id.key then option_map (λ k. (k, d.left)) d.id.deposed else None

-- The input for the record of an instance's object if no create, update or metadata update is about it: only the key.
abbrev pub nothing_given : InstanceKeyView → RecordInputView
nothing_given key = record { key = key; schema_version = 0; dependencies = []; create_before_destroy = false; deposed_key = None }

-- the input for the record of an instance's object
abbrev pub given_by : List ApplyView → ResourceAddrView → InstanceKeyView → RecordInputView
given_by applies addr key = option_map_or (λ a. a.given) (apply_of_instance addr key applies) (nothing_given key)

-- the outcome of the create or the update of an instance
abbrev pub applied_by : List ApplyView → ResourceAddrView → InstanceKeyView → ApplyResultView
applied_by applies addr key = option_map_or (λ a. a.applied) (apply_of_instance addr key applies) unwanted

abbrev pub given_in : EventsView → ResourceAddrView → InstanceKeyView → RecordInputView
given_in e = given_by (wanted e)

-- The outcomes of all actions of an instance: of the create or the update, of the destroy of the object that was
-- current, and of the destroys of deposed ones.
abbrev pub ends_in : EventsView → ResourceAddrView → InstanceKeyView → InstanceResultView
ends_in e addr key =
    record {
      applied = applied_by (wanted e) addr key;
      destroyed = left_of_object addr (object_at key None) e.destroys;
      deposed = filter_map (left_of_deposed addr key) e.destroys;
    }

-- ---- the code's types as plain data

abbrev pub apply_of : Apply → ApplyView
apply_of a = record { addr = addr_of a.addr.now; given = record_input_of a.given; applied = as_applied (option_map saved_of a.saved) }

abbrev pub destroy_of : Destroy → DestroyView
destroy_of d = record { addr = addr_of d.addr.now; id = object_id_of d.id; left = left_of d.left }

abbrev pub metadata_update_of : MetadataUpdate → MetadataUpdateView
metadata_update_of r = record { addr = addr_of r.addr.now; given = record_input_of r.given }

abbrev pub events_of : Events → EventsView
events_of e = record { destroys = map destroy_of e.destroys.items; applies = map apply_of e.applies.items; metadata_updates = map metadata_update_of e.metadata_updates.items }
