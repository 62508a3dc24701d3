-- `MayBeStored` and `IsTable` have at most one proof each, so they can be part of a type.
use Rattle.std.specs.Prelude.{◌≡◌, true}
use Rattle.std.specs.Cmp.Lexicographic.{slice_cmp}
use Rattle.std.specs.List.Sorted.{IsStrictlySortedBy-prop}
use Rattle.std.specs.Ordering.{nat_cmp}
use denote.Struct.Props.{props}
use mathlib.Core.HLevel.{×_prop, Unit-prop}
use Rattle.tf_value_data.specs.Known.{known}
use Rattle.tf_value_data.specs.Measure.{IsWithinLimits}
use Rattle.tf_value_data.specs.Sets.{has_no_set}
use Rattle.tf_value_data.specs.Stored.{MayBeStored, EachMayBeStored, IsTable}
use Rattle.tf_value_data.specs.Tree.{Tree, whole, list, map, set, Items, no_items, item, Entries, no_entries, entry, IsHeld, AreHeld, AreHeldEntries, IsSorted, AreSorted, AreSortedEntries, keys_of}

mutual
  one_proof : (t : Tree) → IsProp (IsHeld t) × IsProp (IsSorted t)
  one_proof (whole z) = (hlevel props, Unit-prop)
  one_proof (list ts) = one_proof_of_items ts
  one_proof (map es) = let p = one_proof_of_entries es in (p.0, ×_prop (IsStrictlySortedBy-prop (slice_cmp nat_cmp) (keys_of es)) p.1)
  one_proof (set ss) = (Unit-prop, IsStrictlySortedBy-prop (slice_cmp nat_cmp) ss)
  one_proof _ = (Unit-prop, Unit-prop)

  one_proof_of_items : (ts : Items) → IsProp (AreHeld ts) × IsProp (AreSorted ts)
  one_proof_of_items no_items = (Unit-prop, Unit-prop)
  one_proof_of_items (item t ts) = let p = one_proof t in let q = one_proof_of_items ts in (×_prop p.0 q.0, ×_prop p.1 q.1)

  one_proof_of_entries : (es : Entries) → IsProp (AreHeldEntries es) × IsProp (AreSortedEntries es)
  one_proof_of_entries no_entries = (Unit-prop, Unit-prop)
  one_proof_of_entries (entry k t es) = let p = one_proof t in let q = one_proof_of_entries es in (×_prop p.0 q.0, ×_prop p.1 q.1)

pub MayBeStored-prop : (t : Tree) → IsProp (MayBeStored t)
MayBeStored-prop t h g =
    let all_known : IsProp (known t ≡ true) = hlevel props in
    let within : IsProp (IsWithinLimits t) = hlevel props in
    let no_set : IsProp (has_no_set t ≡ true) = hlevel props in
    λ i. ((one_proof t).0 h.0 g.0 i, (one_proof t).1 h.1 g.1 i, all_known h.2 g.2 i, within h.3 g.3 i, no_set h.4 g.4 i)

EachMayBeStored-prop : (es : Entries) → IsProp (EachMayBeStored es)
EachMayBeStored-prop no_entries = Unit-prop
EachMayBeStored-prop (entry k t es) = ×_prop (MayBeStored-prop t) (EachMayBeStored-prop es)

pub IsTable-prop : (es : Entries) → IsProp (IsTable es)
IsTable-prop es = ×_prop (IsStrictlySortedBy-prop (slice_cmp nat_cmp) (keys_of es)) (EachMayBeStored-prop es)
