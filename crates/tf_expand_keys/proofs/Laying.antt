-- Objects collected one after another.
use Rattle.std.proofs.Common.{◌≡◌, ◌<◌, ◌≤◌, ◌+◌, ℕ, List, ◌∷◌, map as each, length, get_or, drop, Option, Some, None, option_map, String, Global, string_bytes, string_cmp, refl, sym, ap, ◌∙◌}
use Rattle.std.proofs.lemmas.List.{drop_more}
use Rattle.std.specs.BTreeMap.{insert_entry}
use Rattle.tf_config_address.specs.ObjectId as keys
use Rattle.tf_config_address.specs.ObjectId.{InstanceKeyView}
use Rattle.tf_value_data.specs.Tree.{Tree, map, Entries, no_entries, put, tree_of, entries_view}
use Rattle.tf_value_data.specs.declared.value.Value.{Value}
use Rattle.tf_value_data.proofs.Views.{entries_view-insert_entry}
use Rattle.tf_expand_keys.specs.InstanceKeys.{objects_at, put_each, map_under}

-- what is left to put in once these objects are known
abbrev pub put_rest : (InstanceKeyView → Option Tree) → List (List ℕ) → Entries → Option Entries
put_rest object names es = option_map (λ ts. put_each names ts es) (objects_at object (each keys.name names))

put_by_rest : (name : List ℕ) (names : List (List ℕ)) (t : Tree) (es : Entries) (o : Option (List Tree))
    → option_map (λ ts. put_each (name ∷ names) ts es) (option_map (λ ts. t ∷ ts) o) ≡ option_map (λ ts. put_each names ts (put name t es)) o
put_by_rest name names t es None = refl
put_by_rest name names t es (Some ts) = refl

put_next : (object : InstanceKeyView → Option Tree) (name : List ℕ) (names : List (List ℕ)) (t : Tree) (es : Entries) → object (keys.name name) ≡ Some t
    → put_rest object (name ∷ names) es ≡ put_rest object names (put name t es)
put_next object name names t es h = rw h (put_by_rest name names t es (objects_at object (each keys.name names)))

-- one object more is put in
pub put_more : (object : InstanceKeyView → Option Tree) (names : List (String Global)) (i : ℕ) (name k : String Global) (v : Value) (so_far now : List (String Global × Value)) (all : Option Entries)
    → i < length names → name ≡ get_or names i name → string_bytes k ≡ string_bytes name → now ≡ insert_entry string_cmp so_far k v → object (keys.name (string_bytes name)) ≡ Some (tree_of v)
    → all ≡ put_rest object (each string_bytes (drop i names)) (entries_view so_far) → all ≡ put_rest object (each string_bytes (drop (i + 1) names)) (entries_view now)
put_more object names i name k v so_far now all h is copied put_in found inv =
    let next : drop i names ≡ name ∷ drop (i + 1) names = drop_more names i name h ∙ ap (λ x. x ∷ drop (i + 1) names) (sym is) in
    rw (inv, next, put_in, entries_view-insert_entry so_far k v, copied)
    (put_next object (string_bytes name) (each string_bytes (drop (i + 1) names)) (tree_of v) (entries_view so_far) found)

-- all objects are put in
pub put_all : (names : List (List ℕ)) (o : Option (List Tree)) (es : Entries) → option_map (λ ts. put_each names ts no_entries) o ≡ Some es → Some (map es) ≡ option_map (map_under names) o
put_all names None es h = absurd (cc)
put_all names (Some ts) es h = let e : put_each names ts no_entries ≡ es = (cc) in ap (λ x. Some (map x)) (sym e)
