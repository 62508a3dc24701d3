-- Room, as records are taken out and put in.
use Rattle.std.proofs.Common.{ℕ, ◌+◌, Option, Some, None, IfSome, IfNone, IsSome}
use Rattle.tf_state_data.specs.Resource.{HasRoomForRecords}
use Rattle.tf_state_data.specs.declared.record.Record.{Record}
use Rattle.tf_state_data.specs.declared.resource.Resource.{Resource}

-- taking a record out frees its room
abbrev Freed : Option Record → Resource → Resource → Type 0
Freed left before after = IfSome left (λ _. (n : ℕ) → HasRoomForRecords n before → HasRoomForRecords (n + 1) after)

-- putting one in, where there is one, uses it
abbrev Keeps : Resource → Resource → Type 0
Keeps before after = (n : ℕ) → HasRoomForRecords n before → HasRoomForRecords n after

abbrev Uses : Resource → Resource → Type 0
Uses before after = (n : ℕ) → HasRoomForRecords (n + 1) before → HasRoomForRecords n after

-- what was left is put back, as it is or changed
pub put_back : (left kept : Option Record) (r s t : Resource) → Keeps r s → Freed left r s → IfSome kept (λ _. IsSome left) → IfNone kept (Keeps s t) → IfSome kept (λ _. Uses s t) → Keeps r t
put_back left None r s t keeps freed there none some n h = none n (keeps n h)
put_back (Some x) (Some y) r s t keeps freed there none some n h = some n (freed n h)
put_back None (Some y) r s t keeps freed there none some n h = absurd (cc)

-- there is room for the old object behind the new one
pub room_for_old : (left kept : Option Record) (r s t : Resource) → Freed left r s → IfSome kept (λ _. IsSome left) → Uses s t → HasRoomForRecords 1 r → IfSome kept (λ _. HasRoomForRecords 1 t)
room_for_old left None r s t freed there uses h = tt
room_for_old (Some x) (Some y) r s t freed there uses h = uses 1 (freed 1 h)
room_for_old None (Some y) r s t freed there uses h = absurd (cc)

-- an object is put in, and then the old one
pub put_both : (left kept : Option Record) (r s t u : Resource) → Keeps r s → Freed left r s → IfSome kept (λ _. IsSome left) → Uses s t → IfNone kept (Keeps t u) → IfSome kept (λ _. Uses t u) → Uses r u
put_both left None r s t u keeps freed there uses none some n h = none n (uses n (keeps (n + 1) h))
put_both (Some x) (Some y) r s t u keeps freed there uses none some n h = some n (uses (n + 1) (freed (n + 1) h))
put_both None (Some y) r s t u keeps freed there uses none some n h = absurd (cc)
