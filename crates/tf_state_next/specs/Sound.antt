-- What is recorded may be part of a valid state.
use Rattle.std.specs.Prelude.{◌≡◌, ◌<◌, ◌^◌, true, ⊤}
use Rattle.std.specs.List.{AllByRecursion}
use Rattle.tf_config_address.specs.Name.{is_name}
use Rattle.tf_state_next.specs.Events.{ApplyView, DestroyView, EventsView, wanted}
use Rattle.tf_state.specs.Valid.{AreAddresses, IsAttributes, IsDeposed, IsKey}
use Rattle.tf_state_next.specs.Ends.{LeftView, gone, changed, unchanged, SavedView, ApplyResultView, unwanted, unplanned, nothing, saved}

-- A saved object: its address consists of names, its instance and its record's input are such as a valid state has, and
-- its attributes may be stored.
pub record IsSoundObject (a : ApplyView) (s : SavedView) : Type 0 where
  pub type_name : is_name a.addr.type_name ≡ true
  pub name : is_name a.addr.name ≡ true
  pub key : IsKey a.given.key
  pub version : a.given.schema_version < 2 ^ 32
  pub dependencies : AreAddresses a.given.dependencies
  pub deposed_key : IsDeposed a.given.deposed_key
  pub attributes : IsAttributes s.0

-- The outcome of a create or an update: a saved object is as above, and the new dependencies in a metadata update are
-- addresses.
abbrev pub IsSoundBy : ApplyView → ApplyResultView → Type 0
IsSoundBy a (saved s) = IsSoundObject a s
IsSoundBy a unplanned = AreAddresses a.given.dependencies
IsSoundBy a nothing = ⊤
IsSoundBy a unwanted = ⊤

abbrev pub IsSoundApply : ApplyView → Type 0
IsSoundApply a = IsSoundBy a a.applied

-- attributes that a destroy left may be stored
abbrev pub IsSoundLeft : LeftView → Type 0
IsSoundLeft gone = ⊤
IsSoundLeft (changed t) = IsAttributes t
IsSoundLeft unchanged = ⊤

abbrev pub IsSoundDestroy : DestroyView → Type 0
IsSoundDestroy d = IsSoundLeft d.left

-- all that is recorded is sound
pub record AreSound (e : EventsView) : Type 0 where
  pub destroys : AllByRecursion IsSoundDestroy e.destroys
  pub wanted : AllByRecursion IsSoundApply (wanted e)
