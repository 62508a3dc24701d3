-- Values as plain data: no pointers, no capacities.
use Rattle.std.specs.Prelude.{ℕ, ℤ, Bool, true, false, if◌then◌else◌, ◌&&◌, ◌||◌, Option, Some, None, List, [], ◌∷◌, map as each, String, string_bytes, FitsSigned, ⊤}
use Rattle.std.specs.Ordering.{int_eq, nat_cmp, match_ordering}
use Rattle.std.specs.Cmp.Lexicographic.{pointwise, slice_cmp}
use Rattle.std.specs.Int.{w64}
use Rattle.std.specs.List.Sorted.{IsStrictlySortedBy}
use Rattle.std.specs.Str.{bytes_eq}
use mathlib.Core.Bool.{beq}
use Rattle.std.specs.declared.alloc.Global.{Global}
use Rattle.tf_value_data.specs.declared.value.Value.{Value, fold-Value}
use Rattle.tf_value_data.specs.declared.value.Value.TheOpen.{Value-F}

-- A value: a scalar, a list of values, a map from texts to values, a set of texts, or an unknown value.
mutual
  pub data Tree : Type 0 where
    null : Tree
    boolean : Bool → Tree
    whole : ℤ → Tree
    text : List ℕ → Tree
    list : Items → Tree
    map : Entries → Tree
    -- its texts, in byte order
    set : List (List ℕ) → Tree
    unknown : Tree

  pub data Items : Type 0 where
    no_items : Items
    item : Tree → Items → Items

  -- the entries of a map, in byte order of their keys
  pub data Entries : Type 0 where
    no_entries : Entries
    entry : List ℕ → Tree → Entries → Entries

-- the trees of a list, as items
abbrev pub items_of : List Tree → Items
items_of [] = no_items
items_of (t ∷ ts) = item t (items_of ts)

-- the trees of a list under their keys, as entries
abbrev pub entries_of : List (String Global × Tree) → Entries
entries_of [] = no_entries
entries_of (e ∷ es) = entry (string_bytes e.0) e.1 (entries_of es)

-- one level, with each value inside already seen as its tree
abbrev pub level : Value-F Tree → Tree
level Value-F.Null = null
level (Value-F.Bool b) = boolean b
level (Value-F.Int z) = whole z
level (Value-F.Text s) = text (string_bytes s)
level (Value-F.List v) = list (items_of v.items)
level (Value-F.Map m) = map (entries_of m.entries)
level (Value-F.Set s) = set (each string_bytes s.keys)
level Value-F.Unknown = unknown

-- the tree that a `Value` represents
abbrev pub tree_of : Value → Tree
tree_of = fold-Value Tree level

-- the items of a `Vec<Value>`
abbrev pub items_view : List Value → Items
items_view vs = items_of (each tree_of vs)

-- the entries of a `BTreeMap<String, Value>`
abbrev pub entries_view : List (String Global × Value) → Entries
entries_view es = entries_of (each (λ e. (e.0, tree_of e.1)) es)

-- the texts of a `BTreeSet<String>`
abbrev pub texts_view : List (String Global) → List (List ℕ)
texts_view ss = each string_bytes ss

-- texts, as items
abbrev pub text_items : List (List ℕ) → Items
text_items [] = no_items
text_items (s ∷ ss) = item (text s) (text_items ss)

-- the value at a key
abbrev pub get : List ℕ → Entries → Option Tree
get k no_entries = None
get k (entry l t es) = if bytes_eq k l then Some t else get k es

-- the value at a key of a value; only a map has keys
abbrev pub part_at : List ℕ → Tree → Option Tree
part_at k (map es) = get k es
part_at k _ = None

-- the entries with a value at a key, in byte order of the keys
abbrev pub put : List ℕ → Tree → Entries → Entries
put k t no_entries = entry k t no_entries
put k t (entry l u es) = match_ordering (slice_cmp nat_cmp k l) (entry k t (entry l u es)) (entry l t es) (entry l u (put k t es))

-- the keys of a map's entries
abbrev pub keys_of : Entries → List (List ℕ)
keys_of no_entries = []
keys_of (entry k t es) = k ∷ keys_of es

-- A `Value` can hold a tree if each whole number in it is one of 64 bits with a sign.
abbrev mutual
  pub IsHeld : Tree → Type 0
  IsHeld (whole z) = FitsSigned w64 z
  IsHeld (list ts) = AreHeld ts
  IsHeld (map es) = AreHeldEntries es
  IsHeld _ = ⊤

  pub AreHeld : Items → Type 0
  AreHeld no_items = ⊤
  AreHeld (item t ts) = IsHeld t × AreHeld ts

  pub AreHeldEntries : Entries → Type 0
  AreHeldEntries no_entries = ⊤
  AreHeldEntries (entry k t es) = IsHeld t × AreHeldEntries es

-- A tree is sorted if the keys of each map and the texts of each set in it are strictly in byte order.
abbrev mutual
  pub IsSorted : Tree → Type 0
  IsSorted (list ts) = AreSorted ts
  IsSorted (map es) = IsStrictlySortedBy (slice_cmp nat_cmp) (keys_of es) × AreSortedEntries es
  IsSorted (set ss) = IsStrictlySortedBy (slice_cmp nat_cmp) ss
  IsSorted _ = ⊤

  pub AreSorted : Items → Type 0
  AreSorted no_items = ⊤
  AreSorted (item t ts) = IsSorted t × AreSorted ts

  pub AreSortedEntries : Entries → Type 0
  AreSortedEntries no_entries = ⊤
  AreSortedEntries (entry k t es) = IsSorted t × AreSortedEntries es

abbrev pub is_unknown : Tree → Bool
is_unknown unknown = true
is_unknown _ = false

-- Whether two values have the same shape (as many items, the same keys) and equal scalars and sets. An unknown part
-- of the first one matches any part of the second one if `for_any`, else only an unknown one.
abbrev mutual
  pub compared : Bool → Tree → Tree → Bool
  compared for_any null null = true
  compared for_any (boolean b) (boolean c) = beq b c
  compared for_any (whole y) (whole z) = int_eq y z
  compared for_any (text s) (text t) = bytes_eq s t
  compared for_any (list ts) (list us) = compared_items for_any ts us
  compared for_any (map ts) (map us) = compared_entries for_any ts us
  compared for_any (set ss) (set ts) = pointwise bytes_eq ss ts
  compared for_any unknown u = for_any || is_unknown u
  compared for_any _ _ = false

  pub compared_items : Bool → Items → Items → Bool
  compared_items for_any no_items no_items = true
  compared_items for_any (item t ts) (item u us) = compared for_any t u && compared_items for_any ts us
  compared_items for_any _ _ = false

  pub compared_entries : Bool → Entries → Entries → Bool
  compared_entries for_any no_entries no_entries = true
  compared_entries for_any (entry k t ts) (entry l u us) = bytes_eq k l && (compared for_any t u && compared_entries for_any ts us)
  compared_entries for_any _ _ = false

-- Two values are the same if their trees are.
abbrev pub same : Tree → Tree → Bool
same t u = compared false t u

abbrev pub same_entries : Entries → Entries → Bool
same_entries ts us = compared_entries false ts us
