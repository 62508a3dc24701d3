-- What is put in order one by one is what was put, each once: the members of lists, and what a put adds to them.
use Rattle.std.proofs.Common.{◌≡◌, ℕ, zero, suc, ◌<◌, ◌⊎◌, inl, inr, ⊎_elim, false, List, [], ◌∷◌, ◌++◌, length, slice_index_or, Contains, IsPermutation, Option, Some, None, option_map, Ordering, Less, Equal, Greater, nat_cmp, is_eq, refl, sym, ap, ◌∙◌, subst, arith}
use Rattle.std.specs.Cmp.{IsTotalOrder, eq_by_cmp_equiv}
use Rattle.std.specs.Cmp.Lexicographic.{slice_cmp}
use Rattle.std.specs.List.{AllByRecursion}
use Rattle.std.specs.List.Sorted.{IsStrictlySortedBy}
use Rattle.std.specs.Ordering.{eq_by_cmp, match_ordering}
use Rattle.std.proofs.lemmas.Cmp.{nat_list_cmp_total, tied_itself}
use Rattle.std.proofs.lemmas.List.Elements.{All-contains, All-from_recursion}
use Rattle.std.proofs.lemmas.List.Sorted.{IsPermutation-append_right, IsPermutation-cons, IsPermutation-middle, IsPermutation-refl, IsPermutation-sym, IsPermutation-trans}
use Rattle.std.proofs.lemmas.Map.Keys.{IsDistinct-IsPermutation, IsDistinct-from_sorted, IsDistinct-head, sorted_head, sorted_tail}
use Rattle.std.proofs.lemmas.Map.Lookups.{exact_bytes}
use Rattle.tf_state.specs.Reading.{put_new, put_text}
use Rattle.tf_state.proofs.Orders.{put_new-sorted}
use Rattle.tf_state.proofs.Properties.{mapped}

-- ---- members of a list

cases_at : {A : Type 0} (x y : A) (xs : List A) (k : ℕ) → k < length (x ∷ xs) → slice_index_or (x ∷ xs) k y ≡ y → (x ≡ y) ⊎ Contains xs y
cases_at x y xs zero within e = inl e
cases_at x y xs (suc k) within e = inr (k, omega arith, e)

pub contains_cases : {A : Type 0} (x y : A) (xs : List A) → Contains (x ∷ xs) y → (x ≡ y) ⊎ Contains xs y
contains_cases x y xs h = cases_at x y xs h.0 h.1 h.2

pub contains_head : {A : Type 0} (x : A) (xs : List A) → Contains (x ∷ xs) x
contains_head x xs = (0, omega arith, refl)

pub contains_first : {A : Type 0} (x y : A) (xs : List A) → x ≡ y → Contains (x ∷ xs) y
contains_first x y xs e = subst (Contains (x ∷ xs)) e (contains_head x xs)

pub contains_later : {A : Type 0} (x y : A) (xs : List A) → Contains xs y → Contains (x ∷ xs) y
contains_later x y xs h = let within = h.1 in (suc h.0, omega arith, h.2)

pub contains_nothing : {A : Type 0} (y : A) → Contains [] y → ⊥
contains_nothing y h = let within = h.1 in absurd (omega arith)

-- what ascends after a member is above it
above_head : {A : Type 0} (cmp : A → A → Ordering) (x y : A) (xs : List A) → IsStrictlySortedBy cmp (x ∷ xs) → Contains xs y → cmp x y ≡ Less
above_head cmp x y xs h c = All-contains (λ z. cmp x z ≡ Less) xs y (All-from_recursion (λ z. cmp x z ≡ Less) xs (sorted_head cmp x xs h)) c

not_below_itself : {A : Type 0} (cmp : A → A → Ordering) → IsTotalOrder cmp → (x : A) → cmp x x ≡ Less → ⊥
not_below_itself cmp total x e = let tied = tied_itself total x in absurd (cc)

-- ---- lists in one order

heads : {A : Type 0} (cmp : A → A → Ordering) → IsTotalOrder cmp → (x y : A) (xs ys : List A) → IsStrictlySortedBy cmp (x ∷ xs) → IsStrictlySortedBy cmp (y ∷ ys) → Contains (y ∷ ys) x → Contains (x ∷ xs) y → x ≡ y
heads cmp total x y xs ys s t h g =
    ⊎_elim (λ e. sym e)
    (λ below. ⊎_elim (λ e. e) (λ above. absurd (not_below_itself cmp total x (total.trans x y x (above_head cmp x y xs s above) (above_head cmp y x ys t below)))) (contains_cases x y xs g))
    (contains_cases y x ys h)

-- what stands after one head stands after the other
tails : {A : Type 0} (cmp : A → A → Ordering) → IsTotalOrder cmp → (x y z : A) (xs ys : List A) → IsStrictlySortedBy cmp (x ∷ xs) → x ≡ y → Contains xs z → Contains (y ∷ ys) z → Contains ys z
tails cmp total x y z xs ys s is h g =
    ⊎_elim (λ e. absurd (not_below_itself cmp total x (subst (λ w. cmp x w ≡ Less) (sym (is ∙ e)) (above_head cmp x z xs s h)))) (λ later. later) (contains_cases y z ys g)

pub one_order : {A : Type 0} (cmp : A → A → Ordering) → IsTotalOrder cmp → (xs ys : List A) → IsStrictlySortedBy cmp xs → IsStrictlySortedBy cmp ys → ((z : A) → Contains xs z → Contains ys z) → ((z : A) → Contains ys z → Contains xs z) → xs ≡ ys
one_order cmp total [] [] s t to from = refl
one_order cmp total [] (y ∷ ys) s t to from = absurd (contains_nothing y (from y (contains_head y ys)))
one_order cmp total (x ∷ xs) [] s t to from = absurd (contains_nothing x (to x (contains_head x xs)))
one_order cmp total (x ∷ xs) (y ∷ ys) s t to from =
    let is : x ≡ y = heads cmp total x y xs ys s t (to x (contains_head x xs)) (from y (contains_head y ys)) in
    let rest : xs ≡ ys = one_order cmp total xs ys (sorted_tail cmp x xs s) (sorted_tail cmp y ys t) (λ z h. tails cmp total x y z xs ys s is h (to z (contains_later x z xs h))) (λ z h. tails cmp total y x z ys xs t (sym is) h (from z (contains_later y z ys h))) in
    cc

-- ---- a put of what isn't there

permutes_at : {A : Type 0} (o : Ordering) (a b : A) (bs cs : List A) (later : Option (List A)) → ((ds : List A) → later ≡ Some ds → IsPermutation (a ∷ bs) ds)
    → match_ordering o (Some (a ∷ b ∷ bs)) None (option_map (λ ds. b ∷ ds) later) ≡ Some cs → IsPermutation (a ∷ b ∷ bs) cs
permutes_at Less a b bs cs later more e = let is : a ∷ b ∷ bs ≡ cs = cc in subst (IsPermutation (a ∷ b ∷ bs)) is (IsPermutation-refl (a ∷ b ∷ bs))
permutes_at Equal a b bs cs later more e = absurd (cc)
permutes_at Greater a b bs cs later more e =
    let m = mapped (λ ds. b ∷ ds) later cs e in
    subst (IsPermutation (a ∷ b ∷ bs)) m.2
    (IsPermutation-trans (a ∷ b ∷ bs) (b ∷ a ∷ bs) (b ∷ m.0) (IsPermutation-sym (b ∷ a ∷ bs) (a ∷ b ∷ bs) (IsPermutation-middle (b ∷ []) a bs)) (IsPermutation-cons b (a ∷ bs) m.0 (more m.0 m.1)))

pub put_new-permutes : {A : Type 0} (cmp : A → A → Ordering) (a : A) (bs cs : List A) → put_new cmp a bs ≡ Some cs → IsPermutation (a ∷ bs) cs
put_new-permutes cmp a [] cs e = let is : a ∷ [] ≡ cs = cc in subst (IsPermutation (a ∷ [])) is (IsPermutation-refl (a ∷ []))
put_new-permutes cmp a (b ∷ bs) cs e = permutes_at (cmp a b) a b bs cs (put_new cmp a bs) (λ ds. put_new-permutes cmp a bs ds) e

free_at : {A : Type 0} (o : Ordering) (a b : A) (bs : List A) (later : Option (List A)) → is_eq o ≡ false → (later ≡ None → ⊥) → match_ordering o (Some (a ∷ b ∷ bs)) None (option_map (λ ds. b ∷ ds) later) ≡ None → ⊥
free_at Less a b bs later free more e = absurd (cc)
free_at Equal a b bs later free more e = absurd (cc)
free_at Greater a b bs None free more e = more refl
free_at Greater a b bs (Some ds) free more e = absurd (cc)

-- what is like none of a list is put into it
pub put_new-free : {A : Type 0} (cmp : A → A → Ordering) (a : A) (bs : List A) → AllByRecursion (λ b. eq_by_cmp cmp a b ≡ false) bs → put_new cmp a bs ≡ None → ⊥
put_new-free cmp a [] free e = absurd (cc)
put_new-free cmp a (b ∷ bs) free e = free_at (cmp a b) a b bs (put_new cmp a bs) free.0 (put_new-free cmp a bs free.1) e

all_behind : {A : Type 0} (P : A → Type 0) (xs ys : List A) → AllByRecursion P (xs ++ ys) → AllByRecursion P ys
all_behind P [] ys h = h
all_behind P (x ∷ xs) ys h = all_behind P xs ys h.1

-- where a list stands in strict order, the first of what it was made of is like none of the last
pub first_is_free : {A : Type 0} (cmp : A → A → Ordering) → IsTotalOrder cmp → (a : A) (xs ys all : List A) → IsPermutation (a ∷ xs ++ ys) all → IsStrictlySortedBy cmp all → AllByRecursion (λ b. eq_by_cmp cmp a b ≡ false) ys
first_is_free cmp total a xs ys all p s =
    all_behind (λ b. eq_by_cmp cmp a b ≡ false) xs ys
    (IsDistinct-head (eq_by_cmp cmp) a (xs ++ ys)
    (IsDistinct-IsPermutation (eq_by_cmp cmp) ((eq_by_cmp_equiv total).symm) all (a ∷ xs ++ ys) (IsPermutation-sym (a ∷ xs ++ ys) all p) (IsDistinct-from_sorted cmp all s)))

-- one goes from what is left to what is done
pub moved_in : {A : Type 0} (a : A) (xs ys zs all : List A) → IsPermutation (a ∷ ys) zs → IsPermutation (a ∷ xs ++ ys) all → IsPermutation (xs ++ zs) all
moved_in a xs ys zs all p q =
    IsPermutation-trans (xs ++ zs) (xs ++ a ∷ ys) all (IsPermutation-append_right xs zs (a ∷ ys) (IsPermutation-sym (a ∷ ys) zs p)) (IsPermutation-trans (xs ++ a ∷ ys) (a ∷ xs ++ ys) all (IsPermutation-middle xs a ys) q)

pub moved_out : {A : Type 0} (a : A) (xs ys zs all : List A) → IsPermutation (a ∷ ys) zs → IsPermutation (xs ++ zs) all → IsPermutation (a ∷ xs ++ ys) all
moved_out a xs ys zs all p q =
    IsPermutation-trans (a ∷ xs ++ ys) (xs ++ a ∷ ys) all (IsPermutation-sym (xs ++ a ∷ ys) (a ∷ xs ++ ys) (IsPermutation-middle xs a ys)) (IsPermutation-trans (xs ++ a ∷ ys) (xs ++ zs) all (IsPermutation-append_right xs (a ∷ ys) zs p) q)

-- ---- a put of a text, which may be there

only_at : (o : Ordering) (s t u : List ℕ) (ts later : List (List ℕ)) → (Contains later u → (s ≡ u) ⊎ Contains ts u) → Contains (match_ordering o (s ∷ t ∷ ts) (t ∷ ts) (t ∷ later)) u → (s ≡ u) ⊎ Contains (t ∷ ts) u
only_at Less s t u ts later more h = contains_cases s u (t ∷ ts) h
only_at Equal s t u ts later more h = inr h
only_at Greater s t u ts later more h =
    ⊎_elim (λ e. inr (contains_first t u ts e)) (λ l. ⊎_elim (λ e. inl e) (λ c. inr (contains_later t u ts c)) (more l)) (contains_cases t u later h)

pub put_text-only : (s u : List ℕ) (ts : List (List ℕ)) → Contains (put_text s ts) u → (s ≡ u) ⊎ Contains ts u
put_text-only s u [] h = contains_cases s u [] h
put_text-only s u (t ∷ ts) h = only_at (slice_cmp nat_cmp s t) s t u ts (put_text s ts) (put_text-only s u ts) h

keeps_at : (o : Ordering) (s t u : List ℕ) (ts later : List (List ℕ)) → (Contains ts u → Contains later u) → Contains (t ∷ ts) u → Contains (match_ordering o (s ∷ t ∷ ts) (t ∷ ts) (t ∷ later)) u
keeps_at Less s t u ts later more h = contains_later s u (t ∷ ts) h
keeps_at Equal s t u ts later more h = h
keeps_at Greater s t u ts later more h = ⊎_elim (λ e. contains_first t u later e) (λ c. contains_later t u later (more c)) (contains_cases t u ts h)

pub put_text-keeps : (s u : List ℕ) (ts : List (List ℕ)) → Contains ts u → Contains (put_text s ts) u
put_text-keeps s u [] h = absurd (contains_nothing u h)
put_text-keeps s u (t ∷ ts) h = keeps_at (slice_cmp nat_cmp s t) s t u ts (put_text s ts) (put_text-keeps s u ts) h

has_at : (o : Ordering) (s t : List ℕ) (ts later : List (List ℕ)) → slice_cmp nat_cmp s t ≡ o → Contains later s → Contains (match_ordering o (s ∷ t ∷ ts) (t ∷ ts) (t ∷ later)) s
has_at Less s t ts later is more = contains_head s (t ∷ ts)
has_at Equal s t ts later is more = contains_first t s ts (sym (exact_bytes s t is))
has_at Greater s t ts later is more = contains_later t s later more

pub put_text-has : (s : List ℕ) (ts : List (List ℕ)) → Contains (put_text s ts) s
put_text-has s [] = contains_head s []
put_text-has s (t ∷ ts) = has_at (slice_cmp nat_cmp s t) s t ts (put_text s ts) refl (put_text-has s ts)

-- a put of a text that is there changes nothing
abbrev either : {A : Type 0} → Option A → A → A
either None a = a
either (Some b) a = b

either_at : (o : Ordering) (s t : List ℕ) (ts later : List (List ℕ)) (new : Option (List (List ℕ))) → later ≡ either new ts
    → match_ordering o (s ∷ t ∷ ts) (t ∷ ts) (t ∷ later) ≡ either (match_ordering o (Some (s ∷ t ∷ ts)) None (option_map (λ us. t ∷ us) new)) (t ∷ ts)
either_at Less s t ts later new is = refl
either_at Equal s t ts later new is = refl
either_at Greater s t ts later None is = ap (λ us. t ∷ us) is
either_at Greater s t ts later (Some us) is = ap (λ us. t ∷ us) is

put_text-either : (s : List ℕ) (ts : List (List ℕ)) → put_text s ts ≡ either (put_new (slice_cmp nat_cmp) s ts) ts
put_text-either s [] = refl
put_text-either s (t ∷ ts) = either_at (slice_cmp nat_cmp s t) s t ts (put_text s ts) (put_new (slice_cmp nat_cmp) s ts) (put_text-either s ts)

sorted_either : (new : Option (List (List ℕ))) (ts : List (List ℕ)) → IsStrictlySortedBy (slice_cmp nat_cmp) ts → ((us : List (List ℕ)) → new ≡ Some us → IsStrictlySortedBy (slice_cmp nat_cmp) us) → IsStrictlySortedBy (slice_cmp nat_cmp) (either new ts)
sorted_either None ts h more = h
sorted_either (Some us) ts h more = more us refl

pub put_text-sorted : (s : List ℕ) (ts : List (List ℕ)) → IsStrictlySortedBy (slice_cmp nat_cmp) ts → IsStrictlySortedBy (slice_cmp nat_cmp) (put_text s ts)
put_text-sorted s ts h =
    subst (IsStrictlySortedBy (slice_cmp nat_cmp)) (sym (put_text-either s ts)) (sorted_either (put_new (slice_cmp nat_cmp) s ts) ts h (λ us. put_new-sorted (slice_cmp nat_cmp) nat_list_cmp_total s ts us h))
