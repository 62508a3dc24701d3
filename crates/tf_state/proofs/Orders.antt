-- The orders of records and resources are total, and what is put in order stays in order.
use Rattle.std.proofs.Common.{◌≡◌, Bool, true, false, cond, List, [], ◌∷◌, Option, Some, None, map, filter, Ordering, Less, Equal, Greater, refl, ap, ◌∙◌, subst}
use Rattle.std.specs.Cmp.{IsTotalOrder, on_total}
use Rattle.std.specs.List.{AllByRecursion}
use Rattle.std.specs.List.Sorted.{IsStrictlySortedBy}
use Rattle.std.specs.Ordering.{match_ordering, ordering_reverse}
use Rattle.std.specs.Prelude.{option_map}
use Rattle.std.proofs.lemmas.List.Kept.{IsStrictlySortedBy-filter}
use Rattle.tf_state_data.specs.Record.{RecordView}
use Rattle.tf_state_data.specs.Resource.{ResourceView}
use Rattle.tf_config_address.proofs.Totals.{object_id_total, addr_total}
use Rattle.tf_state.specs.Arrangement.{record_cmp, resource_cmp}
use Rattle.tf_state.specs.Reading.{put_new}
use Rattle.tf_state.proofs.Properties.{mapped}

pub record_total : IsTotalOrder record_cmp
record_total = on_total (λ (r : RecordView). r.id) object_id_total

pub resource_total : IsTotalOrder resource_cmp
resource_total = on_total (λ (r : ResourceView). r.addr) addr_total

-- ---- of each element, and of each key

all-from_keys : {A K : Type 0} (key : A → K) (P : K → Type 0) (xs : List A) → AllByRecursion P (map key xs) → AllByRecursion (λ x. P (key x)) xs
all-from_keys key P [] h = tt
all-from_keys key P (x ∷ xs) h = (h.0, all-from_keys key P xs h.1)

all-of_keys : {A K : Type 0} (key : A → K) (P : K → Type 0) (xs : List A) → AllByRecursion (λ x. P (key x)) xs → AllByRecursion P (map key xs)
all-of_keys key P [] h = tt
all-of_keys key P (x ∷ xs) h = (h.0, all-of_keys key P xs h.1)

kept-all : {A : Type 0} (P : A → Type 0) (b : Bool) (x : A) (rest : List A) → P x → AllByRecursion P rest → AllByRecursion P (cond b (x ∷ rest) rest)
kept-all P true x rest p h = (p, h)
kept-all P false x rest p h = h

pub all-filter : {A : Type 0} (P : A → Type 0) (p : A → Bool) (xs : List A) → AllByRecursion P xs → AllByRecursion P (filter p xs)
all-filter P p [] h = tt
all-filter P p (x ∷ xs) h = kept-all P (p x) x (filter p xs) h.0 (all-filter P p xs h.1)

-- ---- order

pub nothing_ordered : {K : Type 0} (cmp : K → K → Ordering) → IsStrictlySortedBy cmp []
unfolding IsStrictlySortedBy
nothing_ordered cmp = tt

-- what comes before something comes before those after it
below_all : {A : Type 0} (cmp : A → A → Ordering) → IsTotalOrder cmp → (a b : A) (cs : List A) → cmp a b ≡ Less → AllByRecursion (λ c. cmp b c ≡ Less) cs → AllByRecursion (λ c. cmp a c ≡ Less) cs
below_all cmp total a b [] below h = tt
below_all cmp total a b (c ∷ cs) below h = (total.trans a b c below h.0, below_all cmp total a b cs below h.1)

-- those after something are above it
pub above : {A K : Type 0} (key : A → K) (cmp : K → K → Ordering) → IsTotalOrder cmp → (a : A) (bs : List A) → AllByRecursion (λ y. cmp (key a) y ≡ Less) (map key bs) → AllByRecursion (λ b. cmp (key b) (key a) ≡ Greater) bs
above key cmp total a [] h = tt
above key cmp total a (b ∷ bs) h = (total.antisymm (key b) (key a) ∙ ap ordering_reverse h.0, above key cmp total a bs h.1)

-- elements stand in the order of their keys where the keys stand in order
order-from_keys : {A K : Type 0} (key : A → K) (cmp : K → K → Ordering) (xs : List A) → IsStrictlySortedBy cmp (map key xs) → IsStrictlySortedBy (λ a b. cmp (key a) (key b)) xs
unfolding IsStrictlySortedBy
order-from_keys key cmp [] h = tt
order-from_keys key cmp (x ∷ xs) h = (all-from_keys key (λ y. cmp (key x) y ≡ Less) xs h.0, order-from_keys key cmp xs h.1)

order-of_keys : {A K : Type 0} (key : A → K) (cmp : K → K → Ordering) (xs : List A) → IsStrictlySortedBy (λ a b. cmp (key a) (key b)) xs → IsStrictlySortedBy cmp (map key xs)
unfolding IsStrictlySortedBy
order-of_keys key cmp [] h = tt
order-of_keys key cmp (x ∷ xs) h = (all-of_keys key (λ y. cmp (key x) y ≡ Less) xs h.0, order-of_keys key cmp xs h.1)

-- some of what stands in order stand in order
pub order-filter : {A K : Type 0} (key : A → K) (cmp : K → K → Ordering) (p : A → Bool) (xs : List A) → IsStrictlySortedBy cmp (map key xs) → IsStrictlySortedBy cmp (map key (filter p xs))
order-filter key cmp p xs h = order-of_keys key cmp (filter p xs) (IsStrictlySortedBy-filter (λ a b. cmp (key a) (key b)) p xs (order-from_keys key cmp xs h))

-- ---- one more

all_at : {A : Type 0} (o : Ordering) (P : A → Type 0) (a b : A) (bs : List A) (later : Option (List A)) (cs : List A) → P a → AllByRecursion P (b ∷ bs) → ((ds : List A) → later ≡ Some ds → AllByRecursion P ds)
    → match_ordering o (Some (a ∷ b ∷ bs)) None (option_map (λ ds. b ∷ ds) later) ≡ Some cs → AllByRecursion P cs
all_at Less P a b bs later cs p h more e = let is : a ∷ b ∷ bs ≡ cs = cc in subst (AllByRecursion P) is (p, h)
all_at Equal P a b bs later cs p h more e = absurd (cc)
all_at Greater P a b bs later cs p h more e = let m = mapped (λ ds. b ∷ ds) later cs e in subst (AllByRecursion P) m.2 (h.0, more m.0 m.1)

pub put_new-all : {A : Type 0} (cmp : A → A → Ordering) (P : A → Type 0) (a : A) (bs cs : List A) → P a → AllByRecursion P bs → put_new cmp a bs ≡ Some cs → AllByRecursion P cs
put_new-all cmp P a [] cs p h e = let is : a ∷ [] ≡ cs = cc in subst (AllByRecursion P) is (p, tt)
put_new-all cmp P a (b ∷ bs) cs p h e = all_at (cmp a b) P a b bs (put_new cmp a bs) cs p h (λ ds. put_new-all cmp P a bs ds p h.1) e

order_at : {A : Type 0} (cmp : A → A → Ordering) → IsTotalOrder cmp → (o : Ordering) (a b : A) (bs cs : List A) → cmp a b ≡ o → IsStrictlySortedBy cmp (b ∷ bs)
    → ((ds : List A) → put_new cmp a bs ≡ Some ds → IsStrictlySortedBy cmp ds)
    → match_ordering o (Some (a ∷ b ∷ bs)) None (option_map (λ ds. b ∷ ds) (put_new cmp a bs)) ≡ Some cs → IsStrictlySortedBy cmp cs
unfolding IsStrictlySortedBy
order_at cmp total Less a b bs cs is h more e =
    let all : a ∷ b ∷ bs ≡ cs = cc in subst (IsStrictlySortedBy cmp) all ((is, below_all cmp total a b bs is h.0), h)
order_at cmp total Equal a b bs cs is h more e = absurd (cc)
order_at cmp total Greater a b bs cs is h more e =
    let m = mapped (λ ds. b ∷ ds) (put_new cmp a bs) cs e in
    let less : cmp b a ≡ Less = total.antisymm b a ∙ ap ordering_reverse is in
    subst (IsStrictlySortedBy cmp) m.2 (put_new-all cmp (λ c. cmp b c ≡ Less) a bs m.0 less h.0 m.1, more m.0 m.1)

pub put_new-sorted : {A : Type 0} (cmp : A → A → Ordering) → IsTotalOrder cmp → (a : A) (bs cs : List A) → IsStrictlySortedBy cmp bs → put_new cmp a bs ≡ Some cs → IsStrictlySortedBy cmp cs
unfolding IsStrictlySortedBy
put_new-sorted cmp total a [] cs h e = let is : a ∷ [] ≡ cs = cc in subst (IsStrictlySortedBy cmp) is (tt, tt)
put_new-sorted cmp total a (b ∷ bs) cs h e = order_at cmp total (cmp a b) a b bs cs refl h (λ ds. put_new-sorted cmp total a bs ds h.1) e

pub put_new-order : {A K : Type 0} (key : A → K) (cmp : K → K → Ordering) → IsTotalOrder cmp → (a : A) (bs cs : List A) → IsStrictlySortedBy cmp (map key bs) → put_new (λ x y. cmp (key x) (key y)) a bs ≡ Some cs → IsStrictlySortedBy cmp (map key cs)
put_new-order key cmp total a bs cs h e = order-of_keys key cmp cs (put_new-sorted (λ x y. cmp (key x) (key y)) (on_total key total) a bs cs (order-from_keys key cmp bs h) e)
