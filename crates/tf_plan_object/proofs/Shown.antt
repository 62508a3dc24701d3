-- Entries of a map whose values stand for trees by their keys.
use Rattle.std.proofs.Common.{◌≡◌, List, [], ◌∷◌, map as each, String, Global, string_bytes, string_cmp, subst, refl, ap}
use Rattle.std.specs.BTreeMap.{insert_entry}
use Rattle.std.specs.List.Sorted.{IsStrictlySortedBy}
use Rattle.std.specs.Map.{keys_of}
use Rattle.tf_value_data.specs.Tree.{Tree, Entries, entries_view, tree_of}
use Rattle.tf_value_data.specs.declared.value.Value.{Value}
use Rattle.tf_value_data.proofs.Views.{Entry, ShownBefore, shown, shown_more, shown_all}

-- each value with its key
abbrev pub keyed : List Entry → List (String Global × Entry)
keyed = each (λ e. (e.0, e))

keyed-keys : (es : List Entry) → keys_of es ≡ keys_of (keyed es)
keyed-keys [] = refl
keyed-keys (e ∷ es) = ap (λ ks. e.0 ∷ ks) (keyed-keys es)

-- entries of which those before some are shown, in order
abbrev pub AreShownBefore : (Entry → Tree) → List Entry → List Entry → Entries → Type 0
AreShownBefore f es left so_far = ShownBefore f (keyed es) (keyed left) so_far

-- one entry more of a map that is gone through, put into another
pub entry_more : (f : Entry → Tree) (es rest left : List Entry) (e : Entry) (so_far now : List Entry) (k : String Global) (v : Value)
    → IsStrictlySortedBy string_cmp (keys_of es) → rest ≡ e ∷ left → now ≡ insert_entry string_cmp so_far k v → string_bytes k ≡ string_bytes e.0 → tree_of v ≡ f e
    → AreShownBefore f es rest (entries_view so_far) → AreShownBefore f es left (entries_view now)
entry_more f es rest left e so_far now k v sorted step is named same before =
    shown_more f (keyed es) (keyed rest) (keyed left) (e.0, e) so_far now k v (subst (IsStrictlySortedBy string_cmp) (keyed-keys es) sorted) (ap keyed step) is named same before

-- all entries of a map were gone through
pub entries_all : (f : Entry → Tree) (es rest : List Entry) (so_far : Entries) → rest ≡ [] → AreShownBefore f es rest so_far → so_far ≡ shown f (keyed es)
entries_all f es rest so_far none before = shown_all f (keyed es) (keyed rest) so_far (ap keyed none) before
