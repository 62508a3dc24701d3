-- Elements in the order of their keys: what a search finds among them, and what a put and a remove leave. Records by
-- place and resources by address are two cases of one.
use Rattle.std.proofs.Common.{◌≡◌, ℕ, zero, suc, ◌<◌, Bool, true, false, cond, List, [], ◌∷◌, ◌++◌, length, get_or, set, map, take, drop, Some, Ordering, Result, IfOk, IfErr, refl, sym, ap, ap₂, ◌∙◌, subst, arith}
use Rattle.std.proofs.Math.ListN.{get_or-map}
use Rattle.std.proofs.lemmas.List.{map-append, take-map, drop-map}
use Rattle.std.specs.Cmp.{IsTotalOrder}
use Rattle.std.specs.List.{insert, remove}
use Rattle.std.specs.List.Sorted.{IsStrictlySortedBy, IsBinarySearchResult, IsSearchInRange}
use Rattle.tf_config_address.specs.ResourceAddr.{ResourceAddrView, addr_cmp}
use Rattle.tf_state_data.specs.Order.{at_key, with_one, without_one, IsAt, IsGapFor}
use Rattle.tf_config_address.specs.ObjectId.{ObjectIdView, object_id_cmp}
use Rattle.tf_state_data.specs.Record.{RecordView, record_of}
use Rattle.tf_state_data.specs.Resource.{ResourceView, resource_of}
use Rattle.tf_state_data.specs.declared.record.Record.{Record}
use Rattle.tf_state_data.specs.declared.resource.Resource.{Resource}
use Rattle.tf_state_data.proofs.OrderKept.{with-sorted, without-sorted}
use Rattle.tf_state_data.proofs.Sorted.{sought}
use Rattle.tf_config_address.proofs.Totals.{object_id_total, addr_total}

-- how elements are kept: what each is seen as, its key, and the order of keys
pub record Keeping (X A K : Type 0) : Type 0 where
  pub seen : X → A
  pub key : A → K
  pub cmp : K → K → Ordering
  pub total : IsTotalOrder cmp

-- records are kept by place
abbrev pub by_id : Keeping Record RecordView ObjectIdView
by_id = record { seen = record_of; key = λ r. r.id; cmp = object_id_cmp; total = object_id_total }

-- resources are kept by address
abbrev pub by_address : Keeping Resource ResourceView ResourceAddrView
by_address = record { seen = resource_of; key = λ r. r.addr; cmp = addr_cmp; total = addr_total }

set_parts : {X : Type 0} (xs : List X) (i : ℕ) (x : X) → i < length xs → set xs i x ≡ take i xs ++ x ∷ drop (suc i) xs
set_parts [] i x within = absurd (omega (arith, within))
set_parts (y ∷ xs) zero x within = refl
set_parts (y ∷ xs) (suc i) x within = ap (λ ys. y ∷ ys) (set_parts xs i x (omega (arith, within)))

mapped_length : {X A : Type 0} (f : X → A) (xs : List X) → length (map f xs) ≡ length xs
mapped_length f [] = refl
mapped_length f (x ∷ xs) = ap suc (mapped_length f xs)

mapped_parts : {X A : Type 0} (f : X → A) (xs : List X) (x : X) (i j : ℕ) → map f (take i xs ++ x ∷ drop j xs) ≡ take i (map f xs) ++ f x ∷ drop j (map f xs)
mapped_parts f xs x i j = map-append f (take i xs) (x ∷ drop j xs) ∙ ap₂ (λ a b. a ++ f x ∷ b) (sym (take-map f i xs)) (sym (drop-map f j xs))

either : {A : Type 0} (P : A → Type 0) (b : Bool) (x y : A) → P x → P y → P (cond b x y)
either P true x y p q = p
either P false x y p q = q

module _ {X A K : Type 0} (o : Keeping X A K) where
  -- elements stand in the order of their keys, no two with one
  abbrev pub AreInOrder : List X → Type 0
  AreInOrder xs = IsStrictlySortedBy o.cmp (map o.key (map o.seen xs))

  -- an index has the element with a key, or is where it would stand
  abbrev pub Is : K → List X → ℕ → Type 0
  Is k xs i = IsAt o.key o.cmp k (map o.seen xs) i

  abbrev pub IsFree : K → List X → ℕ → Type 0
  IsFree k xs i = IsGapFor o.key o.cmp k (map o.seen xs) i

  -- what a binary search for a key answers
  pub search_answers : (k : K) (xs : List X) (r : Result ℕ ℕ) → AreInOrder xs → IsSearchInRange r (length xs) → IsBinarySearchResult (λ x. o.cmp (o.key (o.seen x)) k) xs r → IfOk r (Is k xs) × IfErr r (IsFree k xs)
  search_answers k xs r ordered range position = sought o.seen o.key o.cmp o.total k xs ordered r range position

  -- the element at the index is the one with the key
  pub element_found : (k : K) (xs : List X) (i : ℕ) (x : X) → Is k xs i → x ≡ get_or xs i x → Some (o.seen x) ≡ at_key o.key o.cmp k (map o.seen xs)
  element_found k xs i x is e = sym (is.found (o.seen x) ∙ (ap Some (get_or-map o.seen xs i x) ∙ ap (λ y. Some (o.seen y)) (sym e)))

  -- an element in place of the one with its key
  pub put_over : (xs : List X) (x y : X) (i : ℕ) → Is (o.key (o.seen x)) xs i → y ≡ x → map o.seen (set xs i y) ≡ with_one o.key o.cmp (o.seen x) (map o.seen xs)
  put_over xs x y i is e =
      let within : i < length xs = subst (λ n. i < n) (mapped_length o.seen xs) is.within in
      ap (λ z. map o.seen (set xs i z)) e ∙ (ap (map o.seen) (set_parts xs i x within) ∙ (mapped_parts o.seen xs x i (suc i) ∙ ap₂ (λ a b. a ++ o.seen x ∷ b) is.lower is.upper))

  -- an element where none with its key is
  pub put_between : (xs : List X) (x : X) (i : ℕ) → IsFree (o.key (o.seen x)) xs i → map o.seen (insert xs i x) ≡ with_one o.key o.cmp (o.seen x) (map o.seen xs)
  put_between xs x i is = mapped_parts o.seen xs x i i ∙ ap₂ (λ a b. a ++ o.seen x ∷ b) is.lower is.upper

  -- the element with a key taken out
  pub taken_out : (k : K) (xs ys : List X) (i : ℕ) → Is k xs i → ys ≡ remove xs i → map o.seen ys ≡ without_one o.key o.cmp k (map o.seen xs)
  taken_out k xs ys i is e =
      ap (map o.seen) e
      ∙ (map-append o.seen (take i xs) (drop (suc i) xs) ∙ (ap₂ (λ a b. a ++ b) (sym (take-map o.seen i xs)) (sym (drop-map o.seen (suc i) xs)) ∙ ap₂ (λ a b. a ++ b) is.lower is.upper))

  -- each of them leaves the elements in order, a put also where there was no memory for it
  pub put_over_ordered : (xs : List X) (x y : X) (i : ℕ) → Is (o.key (o.seen x)) xs i → y ≡ x → AreInOrder xs → AreInOrder (set xs i y)
  put_over_ordered xs x y i is e ordered =
      subst (λ seen. IsStrictlySortedBy o.cmp (map o.key seen)) (sym (put_over xs x y i is e)) (with-sorted o.key o.cmp o.total (o.seen x) (map o.seen xs) ordered)

  pub put_between_ordered : (xs ys : List X) (x : X) (i : ℕ) (b : Bool) → IsFree (o.key (o.seen x)) xs i → ys ≡ cond b (insert xs i x) xs → AreInOrder xs → AreInOrder ys
  put_between_ordered xs ys x i b is e ordered =
      let put = subst (λ seen. IsStrictlySortedBy o.cmp (map o.key seen)) (sym (put_between xs x i is)) (with-sorted o.key o.cmp o.total (o.seen x) (map o.seen xs) ordered) in
      subst AreInOrder (sym e) (either AreInOrder b (insert xs i x) xs put ordered)

  pub taken_out_ordered : (k : K) (xs ys : List X) (i : ℕ) → Is k xs i → ys ≡ remove xs i → AreInOrder xs → AreInOrder ys
  taken_out_ordered k xs ys i is e ordered =
      subst (λ seen. IsStrictlySortedBy o.cmp (map o.key seen)) (sym (taken_out k xs ys i is e)) (without-sorted o.key o.cmp o.total k (map o.seen xs) ordered)
