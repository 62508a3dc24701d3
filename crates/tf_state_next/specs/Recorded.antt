-- Resources after the outcomes of some actions were recorded.
use Rattle.std.specs.Prelude.{◌≡◌, ℕ, List, [], Option, None, option_and_then, map}
use Rattle.std.specs.List.{AllByRecursion}
use Rattle.tf_config_address.specs.ResourceAddr.{ResourceAddrView}
use Rattle.tf_config_address.specs.ObjectId.{InstanceKeyView, ObjectIdView}
use Rattle.tf_state_next.specs.Events.{ApplyView, DestroyView, EventsView, as_apply, applied_by, given_by, left_of_object}
use Rattle.tf_state_next.specs.After.{Places, after_destroy, instance_after, object_at}
use Rattle.tf_state_next.specs.Ends.{InstanceResultView}
use Rattle.tf_state_data.specs.Record.{RecordView}
use Rattle.tf_state_data.specs.Resource.{ResourceView, record_at}
use Rattle.tf_state_data.specs.State.{resource_at}

-- what resources know of an object
abbrev pub record_among : ResourceAddrView → ObjectIdView → List ResourceView → Option RecordView
record_among addr id rs = option_and_then (λ r. record_at id r.records) (resource_at addr rs)

-- what resources know of the objects of an instance
abbrev pub places_among : ResourceAddrView → InstanceKeyView → List ResourceView → Places
places_among addr key rs deposed = record_among addr (object_at key deposed) rs

-- the addresses and the providers of resources
abbrev pub heads_of : List ResourceView → List (ResourceAddrView × List ℕ)
heads_of = map (λ r. (r.addr, r.provider))

-- Resources after some destroys: what is known of each object is what its destroy left of what was known before.
pub record AreDestroyed (destroys : List DestroyView) (before after : List ResourceView) : Type 0 where
  pub known : (addr : ResourceAddrView) (id : ObjectIdView) → record_among addr id after ≡ after_destroy (left_of_object addr id destroys) (record_among addr id before)
  pub heads : heads_of after ≡ heads_of before

-- the outcome of the create or the update of an instance alone
abbrev pub ends_by : List ApplyView → ResourceAddrView → InstanceKeyView → InstanceResultView
ends_by applies addr key = record { applied = applied_by applies addr key; destroyed = None; deposed = [] }

-- Resources after some creates and updates: what is known of each object follows from those of its instance.
pub record AreApplied (applies : List ApplyView) (before after : List ResourceView) : Type 0 where
  pub known : (addr : ResourceAddrView) (key : InstanceKeyView) (deposed : Option (List ℕ)) → record_among addr (object_at key deposed) after ≡ instance_after (given_by applies addr key) (ends_by applies addr key) (places_among addr key before) deposed
  pub heads : heads_of after ≡ heads_of before

-- there is a resource at each of these addresses
abbrev pub AreThere : List ResourceAddrView → List ResourceView → Type 0
AreThere addrs rs = AllByRecursion (λ addr. ¬ (resource_at addr rs ≡ None)) addrs

-- Resources after the outcomes of all actions: first the destroys, then the metadata updates, and then the creates and
-- updates.
pub record IsRecorded (e : EventsView) (before after : List ResourceView) : Type 0 where
  pub mid : List ResourceView
  pub late : List ResourceView
  pub destroyed : AreDestroyed e.destroys before mid
  pub renewed : AreApplied (map as_apply e.metadata_updates) mid late
  pub applied : AreApplied e.applies late after
