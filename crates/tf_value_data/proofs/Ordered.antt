-- The keys of a `BTreeMap`, as texts, stand in byte order.
use Rattle.std.proofs.Common.{◌≡◌, List, [], ◌∷◌, String, Global, Less, string_bytes, string_cmp, nat_cmp}
use Rattle.std.specs.Cmp.Lexicographic.{slice_cmp}
use Rattle.std.specs.List.{AllByRecursion}
use Rattle.std.specs.List.Sorted.{IsStrictlySortedBy}
use Rattle.std.specs.Map.{keys_of as map_keys}
use Rattle.tf_value_data.specs.Tree.{IsSorted, AreSortedEntries, map, set, keys_of, entries_view, texts_view}
use Rattle.tf_value_data.proofs.Views.{Entry}

keys_after : (k : String Global) (es : List Entry) → AllByRecursion (λ l. string_cmp k l ≡ Less) (map_keys es)
    → AllByRecursion (λ l. slice_cmp nat_cmp (string_bytes k) l ≡ Less) (keys_of (entries_view es))
keys_after k [] h = tt
keys_after k (e ∷ es) h = (h.0, keys_after k es h.1)

pub keys_sorted : (es : List Entry) → IsStrictlySortedBy string_cmp (map_keys es) → IsStrictlySortedBy (slice_cmp nat_cmp) (keys_of (entries_view es))
unfolding IsStrictlySortedBy
keys_sorted [] h = tt
keys_sorted (e ∷ es) h = (keys_after e.0 es h.0, keys_sorted es h.1)

pub map_sorted : (es : List Entry) → IsStrictlySortedBy string_cmp (map_keys es) → AreSortedEntries (entries_view es) → IsSorted (map (entries_view es))
map_sorted es order each = (keys_sorted es order, each)

text_after : (s : String Global) (ss : List (String Global)) → AllByRecursion (λ t. string_cmp s t ≡ Less) ss
    → AllByRecursion (λ t. slice_cmp nat_cmp (string_bytes s) t ≡ Less) (texts_view ss)
text_after s [] h = tt
text_after s (t ∷ ss) h = (h.0, text_after s ss h.1)

pub texts_sorted : (ss : List (String Global)) → IsStrictlySortedBy string_cmp ss → IsSorted (set (texts_view ss))
unfolding IsStrictlySortedBy
texts_sorted [] h = tt
texts_sorted (s ∷ ss) h = (text_after s ss h.0, texts_sorted ss h.1)
