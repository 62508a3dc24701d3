-- Values with null in place of what isn't known, with a list in place of each set, with both or with neither.
use Rattle.std.proofs.Common.{◌≡◌, ◌+◌, ◌&&◌, ◌||◌, ℕ, Bool, true, false, not, List, [], ◌∷◌, max, map as each, string_bytes, subst, refl, sym, ap, ap₂}
use Rattle.std.specs.Cmp.Lexicographic.{slice_cmp}
use Rattle.std.specs.List.Sorted.{IsStrictlySortedBy}
use Rattle.std.specs.Ordering.{nat_cmp}
use Rattle.tf_value_data.specs.Measure.{weight, weight_of_texts, weight_of_items, weight_of_entries, depth, depth_of_items, depth_of_entries}
use Rattle.tf_value_data.specs.Parts.{has_only, items_have_only, entries_have_only, rewritten, items_rewritten, entries_rewritten}
use Rattle.tf_value_data.specs.Tree.{Tree, whole, text, list, map, set, unknown, Items, no_items, item, Entries, no_entries, entry, IsHeld, AreHeld, AreHeldEntries, IsSorted, AreSorted, AreSortedEntries, keys_of, tree_of, items_of, items_view, entries_view, text_items}
use Rattle.tf_value_data.specs.declared.value.Value.{Value}
use Rattle.tf_value_data.proofs.Conjunction.{and-first, and-second}
use Rattle.tf_value_data.proofs.Views.{Entry, shown}

-- texts, as items: nothing in them is unknown or a set, they weigh as in a set, and they are held and sorted
texts-only : (unknowns sets : Bool) (ss : List (List ℕ)) → items_have_only unknowns sets (text_items ss) ≡ true
texts-only unknowns sets [] = refl
texts-only unknowns sets (s ∷ ss) = texts-only unknowns sets ss

texts-measure : (ss : List (List ℕ)) → (weight_of_items (text_items ss) ≡ weight_of_texts ss) × (depth_of_items (text_items ss) ≡ 0)
texts-measure [] = (refl, refl)
texts-measure (s ∷ ss) = let p = texts-measure ss in (ap (λ n. weight (text s) + n) p.0, ap (max 0) p.1)

texts-keep : (ss : List (List ℕ)) → AreHeld (text_items ss) × AreSorted (text_items ss)
texts-keep [] = (tt, tt)
texts-keep (s ∷ ss) = let p = texts-keep ss in ((tt, p.0), (tt, p.1))

-- what was unknown
unknown-only : (nulls lists unknowns sets : Bool) → has_only unknowns sets (rewritten nulls lists unknown) ≡ (nulls || unknowns)
unknown-only true lists unknowns sets = refl
unknown-only false lists unknowns sets = refl

unknown-measure : (nulls lists : Bool) → (weight (rewritten nulls lists unknown) ≡ 1) × (depth (rewritten nulls lists unknown) ≡ 0)
unknown-measure true lists = (refl, refl)
unknown-measure false lists = (refl, refl)

unknown-keeps : (nulls lists : Bool) → IsHeld (rewritten nulls lists unknown) × IsSorted (rewritten nulls lists unknown)
unknown-keeps true lists = (tt, tt)
unknown-keeps false lists = (tt, tt)

unknown-stays : (nulls lists : Bool) → not nulls ≡ true → rewritten nulls lists unknown ≡ unknown
unknown-stays true lists h = absurd (cc)
unknown-stays false lists h = refl

-- what was a set
set-only : (nulls lists unknowns sets : Bool) (ss : List (List ℕ)) → has_only unknowns sets (rewritten nulls lists (set ss)) ≡ (lists || sets)
set-only nulls true unknowns sets ss = texts-only unknowns sets ss
set-only nulls false unknowns sets ss = refl

set-measure : (nulls lists : Bool) (ss : List (List ℕ)) → (weight (rewritten nulls lists (set ss)) ≡ weight (set ss)) × (depth (rewritten nulls lists (set ss)) ≡ depth (set ss))
set-measure nulls true ss = let p = texts-measure ss in (ap (λ n. 1 + n) p.0, ap (λ n. 1 + n) p.1)
set-measure nulls false ss = (refl, refl)

set-keeps : (nulls lists : Bool) (ss : List (List ℕ)) → IsSorted (set ss) → IsHeld (rewritten nulls lists (set ss)) × IsSorted (rewritten nulls lists (set ss))
set-keeps nulls true ss s = texts-keep ss
set-keeps nulls false ss s = (tt, s)

set-stays : (nulls lists : Bool) (ss : List (List ℕ)) → not lists ≡ true → rewritten nulls lists (set ss) ≡ set ss
set-stays nulls true ss h = absurd (cc)
set-stays nulls false ss h = refl

module _ (nulls lists : Bool) where
  -- item by item, and entry by entry
  pub items_rewritten-each : (vs : List Value) → items_of (each (λ v. rewritten nulls lists (tree_of v)) vs) ≡ items_rewritten nulls lists (items_view vs)
  items_rewritten-each [] = refl
  items_rewritten-each (v ∷ vs) = ap (item (rewritten nulls lists (tree_of v))) (items_rewritten-each vs)

  pub rewritten_shown : (es : List Entry) → shown (λ v. rewritten nulls lists (tree_of v)) es ≡ entries_rewritten nulls lists (entries_view es)
  rewritten_shown [] = refl
  rewritten_shown (e ∷ es) = ap (entry (string_bytes e.0) (rewritten nulls lists (tree_of e.1))) (rewritten_shown es)

  -- what stands in it then
  mutual
    pub rewritten-only : (unknowns sets : Bool) (t : Tree) → has_only unknowns sets (rewritten nulls lists t) ≡ has_only (nulls || unknowns) (lists || sets) t
    rewritten-only unknowns sets (list ts) = items_rewritten-only unknowns sets ts
    rewritten-only unknowns sets (map es) = entries_rewritten-only unknowns sets es
    rewritten-only unknowns sets (set ss) = set-only nulls lists unknowns sets ss
    rewritten-only unknowns sets unknown = unknown-only nulls lists unknowns sets
    rewritten-only unknowns sets _ = refl

    items_rewritten-only : (unknowns sets : Bool) (ts : Items) → items_have_only unknowns sets (items_rewritten nulls lists ts) ≡ items_have_only (nulls || unknowns) (lists || sets) ts
    items_rewritten-only unknowns sets no_items = refl
    items_rewritten-only unknowns sets (item t ts) = ap₂ (λ b c. b && c) (rewritten-only unknowns sets t) (items_rewritten-only unknowns sets ts)

    entries_rewritten-only : (unknowns sets : Bool) (es : Entries) → entries_have_only unknowns sets (entries_rewritten nulls lists es) ≡ entries_have_only (nulls || unknowns) (lists || sets) es
    entries_rewritten-only unknowns sets no_entries = refl
    entries_rewritten-only unknowns sets (entry k t es) = ap₂ (λ b c. b && c) (rewritten-only unknowns sets t) (entries_rewritten-only unknowns sets es)

  -- where there is nothing to replace, it stays
  mutual
    pub rewritten-stays : (t : Tree) → has_only (not nulls) (not lists) t ≡ true → rewritten nulls lists t ≡ t
    rewritten-stays (list ts) h = ap list (items_rewritten-stay ts h)
    rewritten-stays (map es) h = ap map (entries_rewritten-stay es h)
    rewritten-stays (set ss) h = set-stays nulls lists ss h
    rewritten-stays unknown h = unknown-stays nulls lists h
    rewritten-stays _ h = refl

    items_rewritten-stay : (ts : Items) → items_have_only (not nulls) (not lists) ts ≡ true → items_rewritten nulls lists ts ≡ ts
    items_rewritten-stay no_items h = refl
    items_rewritten-stay (item t ts) h =
        ap₂ item (rewritten-stays t (and-first _ _ h)) (items_rewritten-stay ts (and-second _ _ h))

    entries_rewritten-stay : (es : Entries) → entries_have_only (not nulls) (not lists) es ≡ true → entries_rewritten nulls lists es ≡ es
    entries_rewritten-stay no_entries h = refl
    entries_rewritten-stay (entry k t es) h =
        ap₂ (entry k) (rewritten-stays t (and-first _ _ h)) (entries_rewritten-stay es (and-second _ _ h))

  -- neither measure changes
  mutual
    pub rewritten-measure : (t : Tree) → (weight (rewritten nulls lists t) ≡ weight t) × (depth (rewritten nulls lists t) ≡ depth t)
    rewritten-measure (list ts) = let p = items_rewritten-measure ts in (ap (λ n. 1 + n) p.0, ap (λ n. 1 + n) p.1)
    rewritten-measure (map es) = let p = entries_rewritten-measure es in (ap (λ n. 1 + n) p.0, ap (λ n. 1 + n) p.1)
    rewritten-measure (set ss) = set-measure nulls lists ss
    rewritten-measure unknown = unknown-measure nulls lists
    rewritten-measure _ = (refl, refl)

    items_rewritten-measure : (ts : Items) → (weight_of_items (items_rewritten nulls lists ts) ≡ weight_of_items ts) × (depth_of_items (items_rewritten nulls lists ts) ≡ depth_of_items ts)
    items_rewritten-measure no_items = (refl, refl)
    items_rewritten-measure (item t ts) = let p = rewritten-measure t in let q = items_rewritten-measure ts in (rw (p.0, q.0) refl, rw (p.1, q.1) refl)

    entries_rewritten-measure : (es : Entries) → (weight_of_entries (entries_rewritten nulls lists es) ≡ weight_of_entries es) × (depth_of_entries (entries_rewritten nulls lists es) ≡ depth_of_entries es)
    entries_rewritten-measure no_entries = (refl, refl)
    entries_rewritten-measure (entry k t es) = let p = rewritten-measure t in let q = entries_rewritten-measure es in (rw (p.0, q.0) refl, rw (p.1, q.1) refl)

  -- whole numbers and keys stay as they were
  rewritten-keys : (es : Entries) → keys_of (entries_rewritten nulls lists es) ≡ keys_of es
  rewritten-keys no_entries = refl
  rewritten-keys (entry k t es) = ap (λ ks. k ∷ ks) (rewritten-keys es)

  mutual
    pub rewritten-keeps : (t : Tree) → IsHeld t → IsSorted t → IsHeld (rewritten nulls lists t) × IsSorted (rewritten nulls lists t)
    rewritten-keeps (whole z) h s = (h, tt)
    rewritten-keeps (list ts) h s = items_rewritten-keep ts h s
    rewritten-keeps (map es) h s =
        let p = entries_rewritten-keep es h s.1 in (p.0, (subst (λ ks. IsStrictlySortedBy (slice_cmp nat_cmp) ks) (sym (rewritten-keys es)) s.0, p.1))
    rewritten-keeps (set ss) h s = set-keeps nulls lists ss s
    rewritten-keeps unknown h s = unknown-keeps nulls lists
    rewritten-keeps _ h s = (tt, tt)

    items_rewritten-keep : (ts : Items) → AreHeld ts → AreSorted ts → AreHeld (items_rewritten nulls lists ts) × AreSorted (items_rewritten nulls lists ts)
    items_rewritten-keep no_items h s = (tt, tt)
    items_rewritten-keep (item t ts) h s = let p = rewritten-keeps t h.0 s.0 in let q = items_rewritten-keep ts h.1 s.1 in ((p.0, q.0), (p.1, q.1))

    entries_rewritten-keep : (es : Entries) → AreHeldEntries es → AreSortedEntries es → AreHeldEntries (entries_rewritten nulls lists es) × AreSortedEntries (entries_rewritten nulls lists es)
    entries_rewritten-keep no_entries h s = (tt, tt)
    entries_rewritten-keep (entry k t es) h s = let p = rewritten-keeps t h.0 s.0 in let q = entries_rewritten-keep es h.1 s.1 in ((p.0, q.0), (p.1, q.1))

-- a value where anything may stand is one
mutual
  pub only-all : (t : Tree) → has_only true true t ≡ true
  only-all (list ts) = items_only-all ts
  only-all (map es) = entries_only-all es
  only-all _ = refl

  items_only-all : (ts : Items) → items_have_only true true ts ≡ true
  items_only-all no_items = refl
  items_only-all (item t ts) = ap₂ (λ b c. b && c) (only-all t) (items_only-all ts)

  entries_only-all : (es : Entries) → entries_have_only true true es ≡ true
  entries_only-all no_entries = refl
  entries_only-all (entry k t es) = ap₂ (λ b c. b && c) (only-all t) (entries_only-all es)
