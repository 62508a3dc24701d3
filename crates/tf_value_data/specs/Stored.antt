-- Which values may be stored.
use Rattle.std.specs.Prelude.{◌≡◌, Bool, true, ◌&&◌, ⊤}
use Rattle.std.specs.Ordering.{nat_cmp}
use Rattle.std.specs.Cmp.Lexicographic.{slice_cmp}
use Rattle.std.specs.List.Sorted.{IsStrictlySortedBy}
use Rattle.tf_value_data.specs.Known.{known}
use Rattle.tf_value_data.specs.Measure.{IsWithinLimits, is_within}
use Rattle.tf_value_data.specs.Sets.{has_no_set}
use Rattle.tf_value_data.specs.Tree.{Tree, Entries, no_entries, entry, IsHeld, IsSorted, keys_of}

-- A value may be stored if all of it is known, it is within the limits, and it has no set. Its whole numbers are of
-- 64 bits, and the keys of its maps are in byte order; both hold of each `Value`.
abbrev pub MayBeStored : Tree → Type 0
MayBeStored t = IsHeld t × IsSorted t × (known t ≡ true) × IsWithinLimits t × (has_no_set t ≡ true)

-- A value may be planned for an attribute if it is within the limits and has no set. It needn't be known.
abbrev pub may_be_planned : Tree → Bool
may_be_planned t = is_within t && has_no_set t

-- `MayBeStored` as a test of a tree that a `Value` can hold
abbrev pub may_be_stored : Tree → Bool
may_be_stored t = known t && may_be_planned t

-- each value of a map's entries may be stored
abbrev pub EachMayBeStored : Entries → Type 0
EachMayBeStored no_entries = ⊤
EachMayBeStored (entry k t es) = MayBeStored t × EachMayBeStored es

abbrev pub each_may_be_stored : Entries → Bool
each_may_be_stored no_entries = true
each_may_be_stored (entry k t es) = may_be_stored t && each_may_be_stored es

-- A table is values by name, in byte order of the names. Each value may be stored.
abbrev pub IsTable : Entries → Type 0
IsTable es = IsStrictlySortedBy (slice_cmp nat_cmp) (keys_of es) × EachMayBeStored es
