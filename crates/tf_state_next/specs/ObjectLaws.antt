-- Laws on an instance's objects after its actions, for all records before and all outcomes.
use Rattle.std.specs.Prelude.{◌≡◌, ◌<◌, ◌≤◌, ◌^◌, ◌⊎◌, ℕ, Bool, true, false, List, ◌∷◌, length, Option, Some, None, sum_by, count_by}
use Rattle.tf_config_address.specs.ObjectId.{InstanceKeyView}
use Rattle.tf_state_next.specs.After.{Places, IsAfter, after_destroy, as_deposed, destroy_under, instance_after, places_in, record_of_saved}
use Rattle.tf_state_next.specs.DeposedKey.{IsDeposedKey, is_key}
use Rattle.tf_state_next.specs.Ends.{SavedView, LeftView, gone, changed, ApplyResultView, unwanted, unplanned, nothing, saved, InstanceResultView, RecordInputView, destroy_of}
use Rattle.tf_state_next.specs.Room.{records_more}
use Rattle.tf_state_data.specs.Ids.{AreById}
use Rattle.tf_state_data.specs.Record.{RecordView}
use Rattle.tf_state_data.specs.Resource.{ResourceView}

-- ---- one resource

-- An instance's actions give at most one resource with its records in order.
abbrev pub AfterIsOne : Type 0
AfterIsOne =
    (g : RecordInputView) (ends : InstanceResultView) (before r s : ResourceView) → AreById r.records → AreById s.records
    → IsAfter g ends before r → IsAfter g ends before s → r ≡ s

-- The destroy of a deposed object may come before the other outcomes of the instance, or after them. Together they are
-- the outcomes of all, if there is no other destroy of the object and the key isn't the one given for the old object.
abbrev pub DestroysCombine : Type 0
DestroysCombine =
    (g : RecordInputView) (ends : InstanceResultView) (key : List ℕ) (left : LeftView) (r s t : ResourceView)
    → destroy_under key ends.deposed ≡ None → ¬ (g.deposed_key ≡ Some key)
    → (IsAfter g (destroy_of (Some key) left) r s × IsAfter g ends s t) ⊎ (IsAfter g ends r s × IsAfter g (destroy_of (Some key) left) s t)
    → IsAfter g (record ends { deposed = (key, left) ∷ ends.deposed }) r t

-- ---- nothing is forgotten

-- the destroy of the object at a place, if there was one
abbrev pub destroy_at : InstanceResultView → Option (List ℕ) → Option LeftView
destroy_at ends None = ends.destroyed
destroy_at ends (Some key) = destroy_under key ends.deposed

-- What holds in each apply. No object is deposed under the key that is given for the old one. If no key is given, as in
-- a replace that destroys first, an object is saved only once the old one is gone.
pub record IsOrderly (g : RecordInputView) (ends : InstanceResultView) (before : Places) : Type 0 where
  pub free : (key : List ℕ) → g.deposed_key ≡ Some key → before (Some key) ≡ None
  pub first : (s : SavedView) (left : LeftView) → g.deposed_key ≡ None → ends.applied ≡ saved s → ends.destroyed ≡ Some left → left ≡ gone

-- A record describes an object that had a record at a place. Its attributes are the earlier ones, or those in the reply
-- to a failed destroy, or those that its update saved.
abbrev pub Tells : InstanceResultView → Option (List ℕ) → RecordView → RecordView → Type 0
Tells ends place old new =
    (new.attributes ≡ old.attributes) ⊎ ((destroy_at ends place ≡ Some (changed new.attributes)) ⊎ ((destroy_at ends place ≡ None) × (ends.applied ≡ saved (new.attributes, new.tainted))))

-- An object that had a record has one, in its place or under the key given for the old object.
pub record IsKept (g : RecordInputView) (ends : InstanceResultView) (before : Places) (place : Option (List ℕ)) (old : RecordView) : Type 0 where
  pub where_now : Option (List ℕ)
  pub new : RecordView
  pub there : instance_after g ends before where_now ≡ Some new
  pub in_place : (where_now ≡ place) ⊎ ((place ≡ None) × (where_now ≡ g.deposed_key))
  pub tells : Tells ends place old new

-- Each object that had a record has one, unless a good destroy took it.
abbrev pub NothingIsForgotten : Type 0
NothingIsForgotten =
    (g : RecordInputView) (ends : InstanceResultView) (before : Places) (place : Option (List ℕ)) (old : RecordView)
    → IsOrderly g ends before → before place ≡ Some old → ¬ (destroy_at ends place ≡ Some gone) → IsKept g ends before place old

-- A saved object is the current one, with its record's input.
abbrev pub SavedIsCurrent : Type 0
SavedIsCurrent = (g : RecordInputView) (ends : InstanceResultView) (before : Places) (s : SavedView) → ends.applied ≡ saved s → instance_after g ends before None ≡ Some (record_of_saved g s)

-- A deposed object is never overwritten: under its key is what its destroy left of it.
abbrev pub DeposedStay : Type 0
DeposedStay =
    (g : RecordInputView) (ends : InstanceResultView) (before : Places) (key : List ℕ) (old : RecordView)
    → IsOrderly g ends before → before (Some key) ≡ Some old → instance_after g ends before (Some key) ≡ after_destroy (destroy_under key ends.deposed) (Some old)

-- If an object was saved and the destroy of the old one left it, the old one is deposed under the key given for it. All
-- else of its record stays.
abbrev pub OldIsDeposed : Type 0
OldIsDeposed =
    (g : RecordInputView) (ends : InstanceResultView) (before : Places) (s : SavedView) (key : List ℕ) (old : RecordView)
    → ends.applied ≡ saved s → g.deposed_key ≡ Some key → after_destroy ends.destroyed (before None) ≡ Some old
    → instance_after g ends before (Some key) ≡ Some (as_deposed key old)

-- If a create or an update saved nothing, the old object stays current as its destroy left it, and no object becomes
-- deposed.
abbrev pub OldStays : Type 0
OldStays =
    (g : RecordInputView) (ends : InstanceResultView) (before : Places) → ends.applied ≡ nothing
    → (instance_after g ends before None ≡ after_destroy ends.destroyed (before None))
    × ((key : List ℕ) → instance_after g ends before (Some key) ≡ after_destroy (destroy_under key ends.deposed) (before (Some key)))

-- ---- the key of an object that becomes deposed

-- At most one text is the key.
abbrev pub KeyIsOne : Type 0
KeyIsOne =
    (serial : ℕ) (key : InstanceKeyView) (records : List RecordView) (s t : List ℕ)
    → IsDeposedKey serial key records s → IsDeposedKey serial key records t → s ≡ t

-- If there are fewer records than serials, there is a key.
abbrev pub KeyExists : Type 0
KeyExists = (serial : ℕ) (key : InstanceKeyView) (records : List RecordView) → length records < 2 ^ 32 → (text : List ℕ) × IsDeposedKey serial key records text

-- The key is eight lower-case hex digits.
abbrev pub KeyIsHex : Type 0
KeyIsHex = (serial : ℕ) (key : InstanceKeyView) (records : List RecordView) (text : List ℕ) → IsDeposedKey serial key records text → is_key text ≡ true

-- No object is deposed under the key.
abbrev pub KeyIsFree : Type 0
KeyIsFree =
    (serial : ℕ) (key : InstanceKeyView) (records : List RecordView) (text : List ℕ)
    → IsDeposedKey serial key records text → places_in key records (Some text) ≡ None

-- ---- space

-- a create or an update was planned
abbrev pub is_planned : ApplyResultView → Bool
is_planned (saved s) = true
is_planned nothing = true
is_planned unplanned = false
is_planned unwanted = false

-- Space for one record of each create or update of a resource is enough for the outcomes of all its instances.
abbrev pub RoomsSuffice : Type 0
RoomsSuffice = (applied : List ApplyResultView) → sum_by records_more applied ≤ count_by is_planned applied
