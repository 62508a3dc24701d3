-- What is read of a JSON tree: its keys stand in byte order, and within the limits it may be stored.
use Rattle.std.proofs.Common.{◌≡◌, true, List, [], ◌∷◌, String, Global, Less, string_bytes, string_cmp, nat_cmp, subst, sym, ap, ◌∙◌}
use Rattle.std.specs.Cmp.Lexicographic.{slice_cmp}
use Rattle.std.specs.List.{AllByRecursion}
use Rattle.std.specs.List.Sorted.{IsStrictlySortedBy}
use Rattle.std.specs.Map.{keys_of as map_keys}
use Rattle.serde_json.specs.Data.{Data}
use Rattle.serde_json.specs.View.{members_view}
use Rattle.serde_json.proofs.Views.{Entry as Member}
use Rattle.tf_value_data.specs.Known.{known}
use Rattle.tf_value_data.specs.Measure.{IsWithinLimits}
use Rattle.tf_value_data.specs.Sets.{has_no_set}
use Rattle.tf_value_data.specs.Stored.{MayBeStored}
use Rattle.tf_value_data.specs.Tree.{Tree, IsHeld, IsSorted, AreSortedEntries, map, keys_of}
use Rattle.tf_value_json.specs.Json.{tree_from, entries_from}
use Rattle.tf_value_json.proofs.Forms.{form-tree_from, form-held, tree_from-no_set}

members_after : (k : String Global) (ms : List Member) → AllByRecursion (λ l. string_cmp k l ≡ Less) (map_keys ms)
    → AllByRecursion (λ l. slice_cmp nat_cmp (string_bytes k) l ≡ Less) (keys_of (entries_from (members_view ms)))
members_after k [] h = tt
members_after k (m ∷ ms) h = (h.0, members_after k ms h.1)

member_keys_sorted : (ms : List Member) → IsStrictlySortedBy string_cmp (map_keys ms) → IsStrictlySortedBy (slice_cmp nat_cmp) (keys_of (entries_from (members_view ms)))
unfolding IsStrictlySortedBy
member_keys_sorted [] h = tt
member_keys_sorted (m ∷ ms) h = (members_after m.0 ms h.0, member_keys_sorted ms h.1)

pub members_sorted : (ms : List Member) → IsStrictlySortedBy string_cmp (map_keys ms) → AreSortedEntries (entries_from (members_view ms)) → IsSorted (map (entries_from (members_view ms)))
members_sorted ms order each = (member_keys_sorted ms order, each)

-- what is read of a JSON tree within the limits, whose parts stand in order, may be stored
pub read_stored : (d : Data) (t : Tree) → t ≡ tree_from d → known (tree_from d) ≡ true → IsWithinLimits t → IsSorted (tree_from d) → MayBeStored t
read_stored d t is whole within sorted =
    let form = form-tree_from d whole in
    (subst IsHeld (sym is) (form-held (tree_from d) d form), subst IsSorted (sym is) sorted, subst (λ u. known u ≡ true) (sym is) whole, within, ap has_no_set is ∙ tree_from-no_set d)
