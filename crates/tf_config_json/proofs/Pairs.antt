-- Entries as a list of names with expressions.
use Rattle.std.proofs.Common.{◌≡◌, inl, inr, ℕ, Bool, true, false, cond, bytes_eq, Some, List, [], ◌∷◌, Ordering, Less, Equal, Greater, nat_cmp, refl, sym, ap, ◌∙◌, subst}
use Rattle.std.proofs.lemmas.Cmp.{nat_list_cmp_total, tied_itself}
use Rattle.std.proofs.lemmas.Map.Lookups.{exact_bytes}
use Rattle.std.proofs.lemmas.Slice.Eq.{bytes_eq-Decides}
use Rattle.std.specs.Cmp.Lexicographic.{slice_cmp}
use Rattle.std.specs.List.{AllByRecursion}
use Rattle.std.specs.List.Sorted.{IsStrictlySortedBy}
use Rattle.std.specs.Ordering.{match_ordering}
use Rattle.tf_expr_syntax.specs.ExprTree.{Tree, Entries, no_entries, entry, get}
use Rattle.tf_expr_syntax.specs.ExprTree as expr
use Rattle.tf_config_json.proofs.KeyedLists as keyed
use Rattle.tf_config_json.proofs.KeyedLists.{In, all_at, Collected, same_list}
use Rattle.tf_config_json.specs.Config.{names_in}
use Rattle.tf_config_json.specs.Configuration.{AreEntriesOf}

abbrev pub Pair : Type 0
Pair = List ℕ × Tree

abbrev pub name_of : Pair → List ℕ
name_of p = p.0

abbrev pub name_cmp : List ℕ → List ℕ → Ordering
name_cmp = slice_cmp nat_cmp

abbrev pub pairs_of : Entries → List Pair
pairs_of no_entries = []
pairs_of (entry k t es) = (k, t) ∷ pairs_of es

abbrev pub entries_of : List Pair → Entries
entries_of [] = no_entries
entries_of (p ∷ ps) = entry p.0 p.1 (entries_of ps)

pub pairs-entries_of : (ps : List Pair) → pairs_of (entries_of ps) ≡ ps
pairs-entries_of [] = refl
pairs-entries_of (p ∷ ps) = ap (λ rest. p ∷ rest) (pairs-entries_of ps)

pub entries-pairs_of : (es : Entries) → entries_of (pairs_of es) ≡ es
entries-pairs_of no_entries = refl
entries-pairs_of (entry k t es) = ap (entry k t) (entries-pairs_of es)

-- ---- puts

abbrev before : Pair → List Pair → List Pair
before p ps = p ∷ ps

pairs_put_at : (o : Ordering) (k l : List ℕ) (t u : Tree) (es : Entries) (later : List Pair) → slice_cmp nat_cmp k l ≡ o → pairs_of (expr.put k t es) ≡ later
    → pairs_of (match_ordering o (entry k t (entry l u es)) (entry l t es) (entry l u (expr.put k t es))) ≡ match_ordering o ((k, t) ∷ (l, u) ∷ pairs_of es) ((k, t) ∷ pairs_of es) ((l, u) ∷ later)
pairs_put_at Less k l t u es later is more = refl
pairs_put_at Equal k l t u es later is more = ap (λ (n : List ℕ). before (n, t) (pairs_of es)) (sym (exact_bytes k l is))
pairs_put_at Greater k l t u es later is more = ap (λ rest. (l, u) ∷ rest) more

pub pairs-put : (k : List ℕ) (t : Tree) (es : Entries) → pairs_of (expr.put k t es) ≡ keyed.put name_of name_cmp nat_list_cmp_total exact_bytes (k, t) (pairs_of es)
pairs-put k t no_entries = refl
pairs-put k t (entry l u es) = pairs_put_at (slice_cmp nat_cmp k l) k l t u es (keyed.put name_of name_cmp nat_list_cmp_total exact_bytes (k, t) (pairs_of es)) refl (pairs-put k t es)

-- ---- what is at a name

in_at : (b : Bool) (n k : List ℕ) (e t : Tree) (es : Entries) → bytes_eq n k ≡ b → (get n es ≡ Some e → In (pairs_of es) (n, e)) → cond b (Some t) (get n es) ≡ Some e → In (pairs_of (entry k t es)) (n, e)
in_at true n k e t es is more h =
    let same : k ≡ n = sym ((bytes_eq-Decides n k).0 is) in
    let one : t ≡ e = (cc) in
    inl (ap (λ (m : List ℕ). (m, t)) same ∙ ap (λ (u : Tree). (n, u)) one)
in_at false n k e t es is more h = inr (more h)

pub in-get : (es : Entries) (n : List ℕ) (e : Tree) → get n es ≡ Some e → In (pairs_of es) (n, e)
in-get no_entries n e h = absurd (cc)
in-get (entry k t es) n e h = in_at (bytes_eq n k) n k e t es refl (in-get es n e) h

here_at : (b : Bool) (n k : List ℕ) (e t : Tree) (es : Entries) → bytes_eq n k ≡ b → k ≡ n → t ≡ e → cond b (Some t) (get n es) ≡ Some e
here_at true n k e t es is same one = ap Some one
here_at false n k e t es is same one = let yes = (bytes_eq-Decides n k).1 (sym same) in absurd (cc)

later_at : (b : Bool) (n k : List ℕ) (e t : Tree) (es : Entries) → bytes_eq n k ≡ b → slice_cmp nat_cmp k n ≡ Less → get n es ≡ Some e → cond b (Some t) (get n es) ≡ Some e
later_at true n k e t es is below h =
    let same : n ≡ k = (bytes_eq-Decides n k).0 is in
    let no : Equal ≡ Less = sym (tied_itself nat_list_cmp_total k) ∙ subst (λ m. slice_cmp nat_cmp k m ≡ Less) same below in
    absurd (cc)
later_at false n k e t es is below h = h

pub get-in : (es : Entries) (n : List ℕ) (e : Tree) → IsStrictlySortedBy (λ (p q : Pair). slice_cmp nat_cmp p.0 q.0) (pairs_of es) → In (pairs_of es) (n, e) → get n es ≡ Some e
unfolding IsStrictlySortedBy
get-in no_entries n e sorted h = absurd h
get-in (entry k t es) n e sorted (inl here) = here_at (bytes_eq n k) n k e t es refl (ap (λ (p : Pair). p.0) here) (ap (λ (p : Pair). p.1) here)
get-in (entry k t es) n e sorted (inr later) =
    later_at (bytes_eq n k) n k e t es refl (all_at (λ (p : Pair). slice_cmp nat_cmp k p.0 ≡ Less) (pairs_of es) sorted.0 (n, e) later) (get-in es n e sorted.1 later)

-- ---- order

names_above : (k : List ℕ) (es : Entries) → AllByRecursion (λ (p : Pair). slice_cmp nat_cmp k p.0 ≡ Less) (pairs_of es) → AllByRecursion (λ l. slice_cmp nat_cmp k l ≡ Less) (names_in es)
names_above k no_entries h = tt
names_above k (entry l t es) h = (h.0, names_above k es h.1)

pub names_sorted : (es : Entries) → IsStrictlySortedBy (λ (p q : Pair). slice_cmp nat_cmp p.0 q.0) (pairs_of es) → IsStrictlySortedBy (slice_cmp nat_cmp) (names_in es)
unfolding IsStrictlySortedBy
names_sorted no_entries h = tt
names_sorted (entry k t es) h = (names_above k es h.0, names_sorted es h.1)

pairs_above : (k : List ℕ) (es : Entries) → AllByRecursion (λ l. slice_cmp nat_cmp k l ≡ Less) (names_in es) → AllByRecursion (λ (p : Pair). slice_cmp nat_cmp k p.0 ≡ Less) (pairs_of es)
pairs_above k no_entries h = tt
pairs_above k (entry l t es) h = (h.0, pairs_above k es h.1)

pub pairs_sorted : (es : Entries) → IsStrictlySortedBy (slice_cmp nat_cmp) (names_in es) → IsStrictlySortedBy (λ (p q : Pair). slice_cmp nat_cmp p.0 q.0) (pairs_of es)
unfolding IsStrictlySortedBy
pairs_sorted no_entries h = tt
pairs_sorted (entry k t es) h = (pairs_above k es h.0, pairs_sorted es h.1)

-- ---- the entries that have given names and expressions

-- the names and expressions so far
abbrev pub CollectedEntries : (List ℕ → Tree → Type 0) → (List ℕ → Type 0) → List Pair → Type 0
CollectedEntries Is Met ps = Collected {A = Pair} {K = List ℕ} name_of name_cmp (λ p. Is p.0 p.1) Met ps

pub entries_finished : (Is : List ℕ → Tree → Type 0) (Met : List ℕ → Type 0) (es : Entries) → ((n : List ℕ) (e : Tree) → Is n e → Met n) → CollectedEntries Is Met (pairs_of es) → AreEntriesOf Is es
entries_finished Is Met es all c =
    record {
      order = names_sorted es c.order;
      exact = λ n e. (λ h. c.sound (n, e) (in-get es n e h), λ is. get-in es n e c.order (c.whole (n, e) is (all n e is)));
    }

pub one_entries : (Is : List ℕ → Tree → Type 0) (es fs : Entries) → AreEntriesOf Is es → AreEntriesOf Is fs → es ≡ fs
one_entries Is es fs h j =
    let a = pairs_sorted es h.order in
    let b = pairs_sorted fs j.order in
    let same : pairs_of es ≡ pairs_of fs = same_list name_of name_cmp nat_list_cmp_total exact_bytes (pairs_of es) (pairs_of fs) a b
    (λ p is. in-get fs p.0 p.1 ((j.exact p.0 p.1).1 ((h.exact p.0 p.1).0 (get-in es p.0 p.1 a is))))
    (λ p is. in-get es p.0 p.1 ((h.exact p.0 p.1).1 ((j.exact p.0 p.1).0 (get-in fs p.0 p.1 b is)))) in
    sym (entries-pairs_of es) ∙ ap entries_of same ∙ entries-pairs_of fs

-- two expressions at one name are one
pub one_pair : (Is : List ℕ → Tree → Type 0) → ((n : List ℕ) (e f : Tree) → Is n e → Is n f → e ≡ f) → (x y : Pair) → Is x.0 x.1 → Is y.0 y.1 → x.0 ≡ y.0 → x ≡ y
one_pair Is one x y h j same =
    let value : x.1 ≡ y.1 = one y.0 x.1 y.1 (subst (λ (n : List ℕ). Is n x.1) same h) j in
    ap (λ (n : List ℕ). (n, x.1)) same ∙ ap (λ (e : Tree). (y.0, e)) value
