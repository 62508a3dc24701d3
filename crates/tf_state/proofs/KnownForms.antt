-- Values that are read are known.
use Rattle.std.proofs.Common.{◌≡◌, ℕ, List, Bool, true, false, ◌&&◌, Option, Some, None, cond, Ordering, Less, Equal, Greater, nat_cmp, refl, ap, ◌∙◌, subst, Global, BTreeMap, String}
use Rattle.std.specs.Cmp.Lexicographic.{slice_cmp}
use Rattle.std.specs.Ordering.{match_ordering}
use Rattle.std.specs.Prelude.{option_and_then}
use Rattle.serde_json.specs.Data.{Data, Members, no_members, member}
use Rattle.tf_value_json.specs.Json.{tree_from}
use Rattle.tf_value_data.specs.Known.{known, known_entries}
use Rattle.tf_value_data.specs.Tree.{Tree, Entries, no_entries, entry, put, tree_of, entries_view}
use Rattle.tf_value_data.specs.declared.value.Value.{Value, Map as Mapped}
use Rattle.tf_value_data.proofs.Views.{tree_of-Map}
use Rattle.tf_value_data.proofs.Conjunction.{and-first, and-second, and-both}
use Rattle.tf_state.specs.Reading.{is_within, value_in, values_in}

at_place : (o : Ordering) (a b c : Entries) → known_entries a ≡ true → known_entries b ≡ true → known_entries c ≡ true → known_entries (match_ordering o a b c) ≡ true
at_place Less a b c e f g = e
at_place Equal a b c e f g = f
at_place Greater a b c e f g = g

put-known : (k : List ℕ) (t : Tree) (es : Entries) → known t ≡ true → known_entries es ≡ true → known_entries (put k t es) ≡ true
put-known k t no_entries e f = and-both _ _ e refl
put-known k t (entry l u es) e f =
    let first = and-first (known u) (known_entries es) f in
    let later = and-second (known u) (known_entries es) f in
    at_place (slice_cmp nat_cmp k l) (entry k t (entry l u es)) (entry l t es) (entry l u (put k t es)) (and-both _ _ e f) (and-both _ _ e later) (and-both _ _ first (put-known k t es e later))

known_at : (b w : Bool) (u t : Tree) → known u ≡ b → cond (b && w) (Some u) None ≡ Some t → known t ≡ true
known_at true true u t k e = let same : u ≡ t = cc in subst (λ v. known v ≡ true) same k
known_at true false u t k e = absurd (cc)
known_at false w u t k e = absurd (cc)

pub value_in-known : (d : Data) (t : Tree) → value_in d ≡ Some t → known t ≡ true
value_in-known d t e = known_at (known (tree_from d)) (is_within (tree_from d)) (tree_from d) t refl e

after_one : (o : Option Tree) (k : List ℕ) (ms : Members) (found es : Entries) → ((t : Tree) → o ≡ Some t → known t ≡ true)
    → ((t : Tree) → known t ≡ true → values_in value_in ms (put k t found) ≡ Some es → known_entries es ≡ true)
    → option_and_then (λ t. values_in value_in ms (put k t found)) o ≡ Some es → known_entries es ≡ true
after_one None k ms found es one more e = absurd (cc)
after_one (Some t) k ms found es one more e = more t (one t refl) e

values_in-known : (ms : Members) (found es : Entries) → known_entries found ≡ true → values_in value_in ms found ≡ Some es → known_entries es ≡ true
values_in-known no_members found es h e = let same : found ≡ es = cc in subst (λ v. known_entries v ≡ true) same h
values_in-known (member k d ms) found es h e =
    after_one (value_in d) k ms found es (value_in-known d) (λ t one. values_in-known ms (put k t found) es (put-known k t found one h)) e

-- attributes that were read are known
pub attributes_known : (m : BTreeMap (String Global) Value) (ms : Members) → values_in value_in ms no_entries ≡ Some (entries_view m.entries) → known (tree_of (Mapped m)) ≡ true
attributes_known m ms e = ap known (tree_of-Map m) ∙ values_in-known ms no_entries (entries_view m.entries) refl e
