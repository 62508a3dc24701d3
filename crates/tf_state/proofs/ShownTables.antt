-- Tables beside the members that are written for them.
use Rattle.std.proofs.Common.{false, ◌≡◌, ℕ, ◌^◌, ◌<◌, ℤ, pos, negsuc, true, List, [], ◌∷◌, Less, nat_cmp, arith, rules}
use Rattle.std.specs.Cmp.Lexicographic.{slice_cmp}
use Rattle.std.specs.Int.{w64}
use Rattle.std.specs.List.{AllByRecursion}
use Rattle.std.specs.List.Sorted.{IsStrictlySortedBy}
use Rattle.std.specs.Prelude.{FitsSigned, ⊤}
use Rattle.std.proofs.lemmas.Int.{ints}
use Rattle.serde_json.specs.Data as json
use Rattle.serde_json.specs.Find.{of_integer}
use Rattle.tf_value_json.specs.Plain.{IsPlain, ArePlain, ArePlainMembers, AreAbove}
use Rattle.tf_value_json.specs.Json.{value_data, items_data, entries_data, texts_data}
use Rattle.tf_value_data.specs.Known.{known}
use Rattle.tf_value_data.specs.Measure.{IsWithinLimits}
use Rattle.tf_value_data.specs.Parts.{items_have_only, entries_have_only}
use Rattle.tf_value_data.specs.Sets.{has_no_set}
use Rattle.tf_value_data.proofs.Conjunction.{and-first, and-second}
use Rattle.tf_value_data.specs.Stored.{EachMayBeStored, IsTable}
use Rattle.tf_value_data.specs.Tree.{Tree, null, boolean, whole, text, list, map, set, unknown, Items, no_items, item, Entries, no_entries, entry, keys_of, IsHeld, AreHeld, AreHeldEntries, IsSorted, AreSorted, AreSortedEntries}

-- A value that may be saved, but for the order of its keys.
abbrev pub IsSaved : Tree → Type 0
IsSaved t = IsHeld t × (known t ≡ true) × IsWithinLimits t × (has_no_set t ≡ true)

abbrev pub AreSaved : Entries → Type 0
AreSaved no_entries = ⊤
AreSaved (entry k t es) = IsSaved t × AreSaved es

-- values by name, each of which may be saved, and whose members are plain
abbrev pub IsShown : Entries → Type 0
IsShown es = ArePlainMembers (entries_data es) × AreSaved es

below_pos : (n : ℕ) → FitsSigned w64 (pos n) → n < 2 ^ 64
below_pos n h = first_of (omega (arith, ints), grind (arith, ints), search rules)

below_negsuc : (n : ℕ) → FitsSigned w64 (negsuc n) → n < 2 ^ 63
below_negsuc n h = first_of (omega (arith, ints), grind (arith, ints), search rules)

pub integer-plain : (z : ℤ) → FitsSigned w64 z → IsPlain (json.number (of_integer z))
integer-plain (pos n) h = below_pos n h
integer-plain (negsuc n) h = below_negsuc n h

above-after : (k : List ℕ) (es : Entries) → AllByRecursion (λ l. slice_cmp nat_cmp k l ≡ Less) (keys_of es) → AreAbove k (entries_data es)
above-after k no_entries h = tt
above-after k (entry l t es) h = (h.0, above-after k es h.1)

after-above : (k : List ℕ) (es : Entries) → AreAbove k (entries_data es) → AllByRecursion (λ l. slice_cmp nat_cmp k l ≡ Less) (keys_of es)
after-above k no_entries h = tt
after-above k (entry l t es) h = (h.0, after-above k es h.1)

texts-plain : (ss : List (List ℕ)) → ArePlain (texts_data ss)
texts-plain [] = tt
texts-plain (s ∷ ss) = (tt, texts-plain ss)

mutual
  unfolding IsStrictlySortedBy

  sorted-plain : (t : Tree) → IsHeld t → IsSorted t → IsPlain (value_data t)
  sorted-plain null h s = tt
  sorted-plain (boolean b) h s = tt
  sorted-plain (whole z) h s = integer-plain z h
  sorted-plain (text u) h s = tt
  sorted-plain (list ts) h s = sorted_items-plain ts h s
  sorted-plain (map es) h s = sorted_entries-plain es h s.0 s.1
  sorted-plain (set ss) h s = texts-plain ss
  sorted-plain unknown h s = tt

  sorted_items-plain : (ts : Items) → AreHeld ts → AreSorted ts → ArePlain (items_data ts)
  sorted_items-plain no_items h s = tt
  sorted_items-plain (item t ts) h s = (sorted-plain t h.0 s.0, sorted_items-plain ts h.1 s.1)

  sorted_entries-plain : (es : Entries) → AreHeldEntries es → IsStrictlySortedBy (slice_cmp nat_cmp) (keys_of es) → AreSortedEntries es → ArePlainMembers (entries_data es)
  sorted_entries-plain no_entries h order s = tt
  sorted_entries-plain (entry k t es) h order s = (above-after k es order.0, sorted-plain t h.0 s.0, sorted_entries-plain es h.1 order.1 s.1)

keys-rise : (es : Entries) → ArePlainMembers (entries_data es) → IsStrictlySortedBy (slice_cmp nat_cmp) (keys_of es)
unfolding IsStrictlySortedBy
keys-rise no_entries h = tt
keys-rise (entry k t es) h = (after-above k es h.0, keys-rise es h.2)

mutual
  plain-sorted : (t : Tree) → has_no_set t ≡ true → IsPlain (value_data t) → IsSorted t
  plain-sorted null e h = tt
  plain-sorted (boolean b) e h = tt
  plain-sorted (whole z) e h = tt
  plain-sorted (text u) e h = tt
  plain-sorted (list ts) e h = plain-sorted_items ts e h
  plain-sorted (map es) e h = (keys-rise es h, plain-sorted_entries es e h)
  plain-sorted (set ss) e h = absurd (cc)
  plain-sorted unknown e h = tt

  plain-sorted_items : (ts : Items) → items_have_only true false ts ≡ true → ArePlain (items_data ts) → AreSorted ts
  plain-sorted_items no_items e h = tt
  plain-sorted_items (item t ts) e h = (plain-sorted t (and-first _ _ e) h.0, plain-sorted_items ts (and-second _ _ e) h.1)

  plain-sorted_entries : (es : Entries) → entries_have_only true false es ≡ true → ArePlainMembers (entries_data es) → AreSortedEntries es
  plain-sorted_entries no_entries e h = tt
  plain-sorted_entries (entry k t es) e h = (plain-sorted t (and-first _ _ e) h.1, plain-sorted_entries es (and-second _ _ e) h.2)

held_of : (es : Entries) → EachMayBeStored es → AreHeldEntries es
held_of no_entries h = tt
held_of (entry k t es) h = (h.0.0, held_of es h.1)

sorted_of : (es : Entries) → EachMayBeStored es → AreSortedEntries es
sorted_of no_entries h = tt
sorted_of (entry k t es) h = (h.0.1, sorted_of es h.1)

saved_of : (es : Entries) → EachMayBeStored es → AreSaved es
saved_of no_entries h = tt
saved_of (entry k t es) h = ((h.0.0, h.0.2, h.0.3, h.0.4), saved_of es h.1)

pub shown : (es : Entries) → IsTable es → IsShown es
shown es h = (sorted_entries-plain es (held_of es h.1) h.0 (sorted_of es h.1), saved_of es h.1)

each_stored : (es : Entries) → ArePlainMembers (entries_data es) → AreSaved es → EachMayBeStored es
each_stored no_entries h s = tt
each_stored (entry k t es) h s = ((s.0.0, plain-sorted t s.0.3 h.1, s.0.1, s.0.2, s.0.3), each_stored es h.2 s.1)

pub shown_table : (es : Entries) → IsShown es → IsTable es
shown_table es h = (keys-rise es h.0, each_stored es h.0 h.1)
