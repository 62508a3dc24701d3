-- A `BTreeMap` beside the list in order that it stands for.
use Rattle.std.proofs.Common.{◌≡◌, Bool, true, false, sym, List, [], ◌∷◌, map, Option, Some, None, option_map, Ordering, Less, Equal, Greater, is_eq, cond, refl, ap, ◌∙◌}
use Rattle.std.specs.BTreeMap.{insert_entry, is_at}
use Rattle.std.specs.Cmp.{IsTotalOrder}
use Rattle.std.specs.List.{AllByRecursion}
use Rattle.std.specs.List.Sorted.{IsStrictlySortedBy}
use Rattle.std.specs.Map.{keys_of, lookup}
use Rattle.std.specs.Ordering.{match_ordering}
use Rattle.std.specs.Prelude.{is_some}
use Rattle.std.proofs.lemmas.Map.{lookup-none}
use Rattle.std.proofs.lemmas.Map.Entries.{none_below_head}
use Rattle.tf_state.specs.Reading.{put_new}

-- the view of an entry goes by the key: views are compared as keys are
abbrev pub SeesOrder : {K X A : Type 0} → (K → K → Ordering) → (A → A → Ordering) → (K × X → A) → Type 0
SeesOrder {K} {X} {A} R cmp f = (d e : K × X) → cmp (f d) (f e) ≡ R d.0 e.0

new_at : {K X A : Type 0} (o : Ordering) (f : K × X → A) (new e : K × X) (es rest : List (K × X)) (found : Option X) (later : Option (List A))
    → cond (is_eq o) (Some e.1) found ≡ None
    → (found ≡ None → later ≡ Some (map f rest))
    → match_ordering o (Some (f new ∷ f e ∷ map f es)) None (option_map (λ cs. f e ∷ cs) later) ≡ Some (map f (match_ordering o (new ∷ e ∷ es) ((e.0, new.1) ∷ es) (e ∷ rest)))
new_at Less f new e es rest found later none more = refl
new_at Equal f new e es rest found later none more = absurd (cc)
new_at Greater f new e es rest found later none more = ap (option_map (λ cs. f e ∷ cs)) (more none)

shown-below : {K X A L : Type 0} (R : K → K → Ordering) (cmp : L → L → Ordering) (see : A → L) (f : K × X → A) → SeesOrder R (λ a b. cmp (see a) (see b)) f → (e : K × X) (es : List (K × X)) → AllByRecursion (λ k. R e.0 k ≡ Less) (keys_of es)
    → AllByRecursion (λ l. cmp (see (f e)) l ≡ Less) (map see (map f es))
shown-below R cmp see f sees e [] h = tt
shown-below R cmp see f sees e (d ∷ es) h = (sees e d ∙ h.0, shown-below R cmp see f sees e es h.1)

-- what is seen of entries in the order of their keys stands in order
pub shown-ordered : {K X A L : Type 0} (R : K → K → Ordering) (cmp : L → L → Ordering) (see : A → L) (f : K × X → A) → SeesOrder R (λ a b. cmp (see a) (see b)) f → (es : List (K × X)) → IsStrictlySortedBy R (keys_of es)
    → IsStrictlySortedBy cmp (map see (map f es))
unfolding IsStrictlySortedBy
shown-ordered R cmp see f sees [] h = tt
shown-ordered R cmp see f sees (e ∷ es) h = (shown-below R cmp see f sees e es h.0, shown-ordered R cmp see f sees es h.1)

-- a key that isn't there goes in at its place
put_new-insert_entry : {K X A : Type 0} (R : K → K → Ordering) (cmp : A → A → Ordering) (f : K × X → A) → SeesOrder R cmp f → (k : K) (v : X) (es : List (K × X)) → lookup (is_at (R k)) es ≡ None
    → put_new cmp (f (k, v)) (map f es) ≡ Some (map f (insert_entry R es k v))
put_new-insert_entry R cmp f sees k v [] none = refl
put_new-insert_entry R cmp f sees k v (e ∷ es) none =
    rw (sees (k, v) e) (new_at (R k e.0) f (k, v) e es (insert_entry R es k v) (lookup (is_at (R k)) es) (put_new cmp (f (k, v)) (map f es)) none (put_new-insert_entry R cmp f sees k v es))

taken_at : {K X A : Type 0} (o : Ordering) (a b : A) (bs : List A) (e : K × X) (found : Option X) (later : Option (List A))
    → is_some (cond (is_eq o) (Some e.1) found) ≡ true → (o ≡ Less → cond (is_eq o) (Some e.1) found ≡ None) → (is_some found ≡ true → later ≡ None)
    → match_ordering o (Some (a ∷ b ∷ bs)) None (option_map (λ cs. b ∷ cs) later) ≡ None
taken_at Less a b bs e found later some below more = let none = below refl in absurd (cc)
taken_at Equal a b bs e found later some below more = refl
taken_at Greater a b bs e found later some below more = ap (option_map (λ cs. b ∷ cs)) (more some)

-- a key that is there is refused
put_new-taken : {K X A : Type 0} (R : K → K → Ordering) (cmp : A → A → Ordering) (f : K × X → A) → IsTotalOrder R → SeesOrder R cmp f → (k : K) (v : X) (es : List (K × X)) → IsStrictlySortedBy R (keys_of es)
    → is_some (lookup (is_at (R k)) es) ≡ true → put_new cmp (f (k, v)) (map f es) ≡ None
unfolding IsStrictlySortedBy
put_new-taken R cmp f total sees k v [] sorted some = absurd (cc)
put_new-taken R cmp f total sees k v (e ∷ es) sorted some =
    rw (sees (k, v) e) (taken_at (R k e.0) (f (k, v)) (f e) (map f es) e (lookup (is_at (R k)) es) (put_new cmp (f (k, v)) (map f es)) some (λ below. lookup-none (is_at (R k)) (e ∷ es) (none_below_head total k e es sorted below))
    (put_new-taken R cmp f total sees k v es sorted.1))

none_from_false : {X : Type 0} (o : Option X) → is_some o ≡ false → o ≡ None
none_from_false None e = refl
none_from_false (Some x) e = absurd (cc)

-- an insert that finds nothing at the key puts something new in
pub new_put : {K X A : Type 0} (R : K → K → Ordering) (cmp : A → A → Ordering) (f : K × X → A) → SeesOrder R cmp f → (k : K) (v : X) (es now : List (K × X)) (old : Option X) (is_taken : Bool)
    → old ≡ lookup (is_at (R k)) es → now ≡ insert_entry R es k v → is_taken ≡ is_some old → is_taken ≡ false → put_new cmp (f (k, v)) (map f es) ≡ Some (map f now)
new_put R cmp f sees k v es now old is_taken was is told free =
    put_new-insert_entry R cmp f sees k v es (sym was ∙ none_from_false old (sym told ∙ free)) ∙ sym (ap (λ xs. Some (map f xs)) is)

-- and one that finds something is no put of anything new
pub taken_put : {K X A : Type 0} (R : K → K → Ordering) (cmp : A → A → Ordering) (f : K × X → A) → IsTotalOrder R → SeesOrder R cmp f → (k : K) (v : X) (es : List (K × X)) (old : Option X) (is_taken : Bool)
    → IsStrictlySortedBy R (keys_of es) → old ≡ lookup (is_at (R k)) es → is_taken ≡ is_some old → is_taken ≡ true → put_new cmp (f (k, v)) (map f es) ≡ None
taken_put R cmp f total sees k v es old is_taken sorted was told taken = put_new-taken R cmp f total sees k v es sorted (ap is_some (sym was) ∙ sym told ∙ taken)
