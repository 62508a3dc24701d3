-- What is read of an object is the table that its members say.
use Rattle.std.proofs.Common.{◌≡◌, ℕ, Bool, true, false, cond, ◌&&◌, List, [], ◌∷◌, Option, Some, None, Ordering, Less, Equal, Greater, nat_cmp, is_eq, codes, refl, sym, ap, ◌∙◌, subst}
use Rattle.std.specs.Cmp.Lexicographic.{slice_cmp}
use Rattle.std.specs.List.{AllByRecursion}
use Rattle.std.specs.List.Sorted.{IsStrictlySortedBy}
use Rattle.std.specs.Option.{option_or}
use Rattle.std.specs.Ordering.{match_ordering, ordering_reverse}
use Rattle.std.specs.Prelude.{option_and_then}
use Rattle.std.specs.Str.{bytes_eq}
use Rattle.std.proofs.lemmas.Bool.{and_parts}
use Rattle.std.proofs.lemmas.Cmp.{nat_list_cmp_total}
use Rattle.std.proofs.lemmas.Map.Lookups.{exact_bytes}
use Rattle.std.proofs.lemmas.Map.Text.{is_eq-slice_cmp}
use Rattle.std.proofs.lemmas.Slice.Eq.{bytes_eq-Decides}
use Rattle.serde_json.specs.Data.{Data, Members, no_members, member}
use Rattle.serde_json.specs.Find.{get as get_property}
use Rattle.tf_value_json.specs.Json.{tree_from}
use Rattle.tf_value_data.specs.Known.{known}
use Rattle.tf_value_data.specs.Tree.{Tree, Entries, no_entries, entry, get, put}
use Rattle.tf_value_json.proofs.Forms.{IsJson-known, form-tree_from, tree_from-no_set, tree_from-value}
use Rattle.tf_value_data.proofs.Keys.{get-put, get-put_other}
use Rattle.tf_state.specs.Reading.{is_within, output_in, required_value, value_in, values_in}
use Rattle.tf_state.specs.Table.{EachMemberSays, SaysOutput, SaysPart, SaysTable, SaysValue, last_member, names_of}
use Rattle.tf_state.specs.Words.{is_shaped}
use Rattle.tf_state.specs.declared.shape.Shape.TheVariants as shapes
use Rattle.tf_state.proofs.Properties.{inverted, guarded}
use Rattle.tf_state.proofs.ValueForms.{is_within-true, within-limits}

same : {A : Type 0} (a b : A) → Some a ≡ Some b → a ≡ b
same a b e = cc

-- ---- values and outputs

pub value-says : (d : Data) (t : Tree) → value_in d ≡ Some t → SaysValue d t
value-says d t e =
    let g = guarded (known (tree_from d) && is_within (tree_from d)) (Some (tree_from d)) t e in
    let parts = and_parts (known (tree_from d)) (is_within (tree_from d)) g.0 in
    subst (SaysValue d) (same (tree_from d) t g.1) (form-tree_from d parts.0, within-limits (tree_from d) parts.1, tree_from-no_set d)

pub value-said : (d : Data) (t : Tree) → SaysValue d t → value_in d ≡ Some t
value-said d t h = rw (tree_from-value t d h.2 h.0, IsJson-known t d h.0, is_within-true t h.1) refl

required-says : (o : Option Data) (t : Tree) → required_value o ≡ Some t → SaysPart SaysValue o (Some t)
required-says None t e = absurd (cc)
required-says (Some d) t e = value-says d t e

required-said : (o : Option Data) (t : Tree) → SaysPart SaysValue o (Some t) → required_value o ≡ Some t
required-said None t h = absurd (assumption)
required-said (Some d) t h = value-said d t h

pub output-says : (d : Data) (t : Tree) → output_in d ≡ Some t → SaysOutput d t
output-says d t e =
    let g = guarded (is_shaped shapes.Output d) (required_value (get_property (codes "value") d)) t e in record { only = g.0; value = required-says (get_property (codes "value") d) t g.1 }

pub output-said : (d : Data) (t : Tree) → SaysOutput d t → output_in d ≡ Some t
output-said d t h = rw h.only (required-said (get_property (codes "value") d) t h.value)

-- ---- names in order

abbrev pub Ascends : Entries → Type 0
Ascends es = IsStrictlySortedBy (slice_cmp nat_cmp) (names_of es)

above_at : (o : Ordering) (P : List ℕ → Type 0) (k l : List ℕ) (t u : Tree) (es later : Entries) → P k → AllByRecursion P (names_of (entry l u es)) → AllByRecursion P (names_of later)
    → AllByRecursion P (names_of (match_ordering o (entry k t (entry l u es)) (entry l t es) (entry l u later)))
above_at Less P k l t u es later p h more = (p, h)
above_at Equal P k l t u es later p h more = h
above_at Greater P k l t u es later p h more = (h.0, more)

names-put : (P : List ℕ → Type 0) (k : List ℕ) (t : Tree) (es : Entries) → P k → AllByRecursion P (names_of es) → AllByRecursion P (names_of (put k t es))
names-put P k t no_entries p h = (p, tt)
names-put P k t (entry l u es) p h = above_at (slice_cmp nat_cmp k l) P k l t u es (put k t es) p h (names-put P k t es p h.1)

all_above : (k l : List ℕ) (ms : List (List ℕ)) → slice_cmp nat_cmp k l ≡ Less → AllByRecursion (λ m. slice_cmp nat_cmp l m ≡ Less) ms → AllByRecursion (λ m. slice_cmp nat_cmp k m ≡ Less) ms
all_above k l [] below h = tt
all_above k l (m ∷ ms) below h = (nat_list_cmp_total.trans k l m below h.0, all_above k l ms below h.1)

ascends_at : (o : Ordering) (k l : List ℕ) (t u : Tree) (es : Entries) → slice_cmp nat_cmp k l ≡ o → Ascends (entry l u es) → Ascends (put k t es) → Ascends (match_ordering o (entry k t (entry l u es)) (entry l t es) (entry l u (put k t es)))
unfolding IsStrictlySortedBy
ascends_at Less k l t u es is h more = ((is, all_above k l (names_of es) is h.0), h)
ascends_at Equal k l t u es is h more = h
ascends_at Greater k l t u es is h more = (names-put (λ m. slice_cmp nat_cmp l m ≡ Less) k t es (nat_list_cmp_total.antisymm l k ∙ ap ordering_reverse is) h.0, more)

ascends-put : (k : List ℕ) (t : Tree) (es : Entries) → Ascends es → Ascends (put k t es)
unfolding IsStrictlySortedBy
ascends-put k t no_entries h = (tt, tt)
ascends-put k t (entry l u es) h = ascends_at (slice_cmp nat_cmp k l) k l t u es refl h (ascends-put k t es h.1)

-- ---- tables of the same look-ups

key_itself : (k : List ℕ) → bytes_eq k k ≡ true
key_itself k = (bytes_eq-Decides k k).1 refl

other : (k l : List ℕ) → slice_cmp nat_cmp k l ≡ Less → bytes_eq k l ≡ false
other k l is = sym (is_eq-slice_cmp k l) ∙ ap is_eq is

absent_below : (k : List ℕ) (es : Entries) → AllByRecursion (λ m. slice_cmp nat_cmp k m ≡ Less) (names_of es) → get k es ≡ None
absent_below k no_entries h = refl
absent_below k (entry l t es) h = rw (other k l h.0) (absent_below k es h.1)

absent_before : (k l : List ℕ) (u : Tree) (es : Entries) → slice_cmp nat_cmp k l ≡ Less → Ascends (entry l u es) → get k (entry l u es) ≡ None
unfolding IsStrictlySortedBy
absent_before k l u es is h = absent_below k (entry l u es) (is, all_above k l (names_of es) is h.0)

stands_first : (k : List ℕ) (t : Tree) (es : Entries) → get k (entry k t es) ≡ Some t
stands_first k t es = rw (key_itself k) refl

first_names : (o : Ordering) (k l : List ℕ) (t u : Tree) (es fs : Entries) → slice_cmp nat_cmp k l ≡ o → Ascends (entry k t es) → Ascends (entry l u fs) → ((m : List ℕ) → get m (entry k t es) ≡ get m (entry l u fs)) → k ≡ l
first_names Less k l t u es fs is s r h = let e = h k in let has = stands_first k t es in let none = absent_before k l u fs is r in absurd (cc)
first_names Equal k l t u es fs is s r h = exact_bytes k l is
first_names Greater k l t u es fs is s r h =
    let e = h l in
    let has = stands_first l u fs in
    let none = absent_before l k t es (nat_list_cmp_total.antisymm l k ∙ ap ordering_reverse is) s in absurd (cc)

later_at : (b : Bool) (m k : List ℕ) (t u : Tree) (es fs : Entries) → bytes_eq m k ≡ b → get k es ≡ None → get k fs ≡ None → cond b (Some t) (get m es) ≡ cond b (Some u) (get m fs) → get m es ≡ get m fs
later_at true m k t u es fs is none also e = let same_name : m ≡ k = (bytes_eq-Decides m k).0 is in ap (λ n. get n es) same_name ∙ none ∙ sym also ∙ ap (λ n. get n fs) (sym same_name)
later_at false m k t u es fs is none also e = e

absent_later : (k : List ℕ) (t : Tree) (es : Entries) → Ascends (entry k t es) → get k es ≡ None
unfolding IsStrictlySortedBy
absent_later k t es h = absent_below k es h.0

later_ascends : (k : List ℕ) (t : Tree) (es : Entries) → Ascends (entry k t es) → Ascends es
unfolding IsStrictlySortedBy
later_ascends k t es h = h.1

one_table : (es fs : Entries) → Ascends es → Ascends fs → ((k : List ℕ) → get k es ≡ get k fs) → es ≡ fs
one_table no_entries no_entries s r h = refl
one_table no_entries (entry l u fs) s r h = let e = h l in let has = stands_first l u fs in absurd (cc)
one_table (entry k t es) no_entries s r h = let e = h k in let has = stands_first k t es in absurd (cc)
one_table (entry k t es) (entry l u fs) s r h =
    let is : k ≡ l = first_names (slice_cmp nat_cmp k l) k l t u es fs refl s r h in
    let r' : Ascends (entry k u fs) = subst (λ n. Ascends (entry n u fs)) (sym is) r in
    let h' : (m : List ℕ) → get m (entry k t es) ≡ get m (entry k u fs) = λ m. h m ∙ ap (λ n. get m (entry n u fs)) (sym is) in
    let value : t ≡ u = same t u (sym (stands_first k t es) ∙ h' k ∙ stands_first k u fs) in
    let rest : es ≡ fs = one_table es fs (later_ascends k t es s) (later_ascends k u fs r') (λ m. later_at (bytes_eq m k) m k t u es fs refl (absent_later k t es s) (absent_later k u fs r') (h' m)) in
    cc

-- ---- members

-- what stands at a name: what its last member is read as, or what stood there before
abbrev Part : (Data → Option Tree) → Option Data → Option Tree → Option Tree → Type 0
Part read_one None before after = after ≡ before
Part read_one (Some d) before after = (after ≡ read_one d) × ((t : Tree) × (read_one d ≡ Some t))

part_at : (read_one : Data → Option Tree) (later : Option Data) (b : Bool) (k l : List ℕ) (d : Data) (t : Tree) (found : Entries) (after : Option Tree) → bytes_eq k l ≡ b → read_one d ≡ Some t → Part read_one later (get k (put l t found)) after
    → Part read_one (option_or later (cond b (Some d) None)) (get k found) after
part_at read_one (Some e) b k l d t found after is reads h = h
part_at read_one None true k l d t found after is reads h =
    let name : k ≡ l = (bytes_eq-Decides k l).0 is in (h ∙ ap (λ n. get n (put l t found)) name ∙ get-put l t found ∙ sym reads, (t, reads))
part_at read_one None false k l d t found after is reads h = h ∙ get-put_other l k t found (λ e. let yes : bytes_eq k l ≡ true = (bytes_eq-Decides k l).1 e in absurd (cc))

parts : (read_one : Data → Option Tree) (ms : Members) (found es : Entries) → values_in read_one ms found ≡ Some es → (k : List ℕ) → Part read_one (last_member k ms) (get k found) (get k es)
parts read_one no_members found es e k = ap (get k) (sym (same found es e))
parts read_one (member l d ms) found es e k =
    let i = inverted (λ t. values_in read_one ms (put l t found)) (read_one d) es e in part_at read_one (last_member k ms) (bytes_eq k l) k l d i.0 found (get k es) refl i.1 (parts read_one ms (put l i.0 found) es i.2 k)

table-ascends : (read_one : Data → Option Tree) (ms : Members) (found es : Entries) → Ascends found → values_in read_one ms found ≡ Some es → Ascends es
table-ascends read_one no_members found es h e = subst Ascends (same found es e) h
table-ascends read_one (member l d ms) found es h e =
    let i = inverted (λ t. values_in read_one ms (put l t found)) (read_one d) es e in table-ascends read_one ms (put l i.0 found) es (ascends-put l i.0 found h) i.2

members-say : (read_one : Data → Option Tree) (Says : Data → Tree → Type 0) → ((d : Data) (t : Tree) → read_one d ≡ Some t → Says d t) → (ms : Members) (found es : Entries) → values_in read_one ms found ≡ Some es → EachMemberSays Says ms
members-say read_one Says says no_members found es e = tt
members-say read_one Says says (member l d ms) found es e =
    let i = inverted (λ t. values_in read_one ms (put l t found)) (read_one d) es e in ((i.0, says d i.0 i.1), members-say read_one Says says ms (put l i.0 found) es i.2)

part-says : (read_one : Data → Option Tree) (Says : Data → Tree → Type 0) → ((d : Data) (t : Tree) → read_one d ≡ Some t → Says d t) → (o : Option Data) (after : Option Tree) → Part read_one o None after → SaysPart Says o after
part-says read_one Says says None None h = tt
part-says read_one Says says None (Some t) h = absurd (cc)
part-says read_one Says says (Some d) None h = let e = h.0 in let f = h.1.1 in absurd (cc)
part-says read_one Says says (Some d) (Some t) h = says d t (sym h.0)

nothing-ascends : Ascends no_entries
unfolding IsStrictlySortedBy
nothing-ascends = tt

-- what is read is said
pub table-says : (read_one : Data → Option Tree) (Says : Data → Tree → Type 0) → ((d : Data) (t : Tree) → read_one d ≡ Some t → Says d t) → (ms : Members) (es : Entries) → values_in read_one ms no_entries ≡ Some es → SaysTable Says ms es
table-says read_one Says says ms es e =
    record {
      each = members-say read_one Says says ms no_entries es e;
      order = table-ascends read_one ms no_entries es nothing-ascends e;
      values = λ k. part-says read_one Says says (last_member k ms) (get k es) (parts read_one ms no_entries es e k);
    }

-- members of which each says a value are read
some_table : (read_one : Data → Option Tree) (Says : Data → Tree → Type 0) → ((d : Data) (t : Tree) → Says d t → read_one d ≡ Some t) → (ms : Members) (found : Entries) → EachMemberSays Says ms → (es : Entries) × (values_in read_one ms found ≡ Some es)
some_table read_one Says reads no_members found h = (found, refl)
some_table read_one Says reads (member l d ms) found h =
    let later = some_table read_one Says reads ms (put l h.0.0 found) h.1 in (later.0, ap (λ o. option_and_then (λ t. values_in read_one ms (put l t found)) o) (reads d h.0.0 h.0.1) ∙ later.1)

one_part : (read_one : Data → Option Tree) (Says : Data → Tree → Type 0) → ((d : Data) (t : Tree) → Says d t → read_one d ≡ Some t) → (o : Option Data) (p q : Option Tree) → Part read_one o None p → SaysPart Says o q → p ≡ q
one_part read_one Says reads None p None h s = h
one_part read_one Says reads None p (Some t) h s = absurd (assumption)
one_part read_one Says reads (Some d) p None h s = absurd (assumption)
one_part read_one Says reads (Some d) p (Some t) h s = h.0 ∙ reads d t s

-- what is said is read
pub table-said : (read_one : Data → Option Tree) (Says : Data → Tree → Type 0) → ((d : Data) (t : Tree) → Says d t → read_one d ≡ Some t) → (ms : Members) (es : Entries) → SaysTable Says ms es → values_in read_one ms no_entries ≡ Some es
table-said read_one Says reads ms es h =
    let some = some_table read_one Says reads ms no_entries h.each in
    some.1
    ∙ ap Some
    (one_table some.0 es (table-ascends read_one ms no_entries some.0 nothing-ascends some.1) h.order (λ k. one_part read_one Says reads (last_member k ms) (get k some.0) (get k es) (parts read_one ms no_entries some.0 some.1 k) (h.values k)))
