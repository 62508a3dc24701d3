-- Lists in the order of a key: what stands before and after a key in them.
use Rattle.std.proofs.Common.{◌≡◌, ℕ, zero, suc, ◌<◌, ◌≤◌, Bool, true, false, List, [], ◌∷◌, length, get_or, map, filter, Some, None, Result, Ok, Err, IfOk, IfErr, Ordering, Less, Equal, Greater, refl, sym, ap, ◌∙◌, arith}
use Rattle.std.specs.Cmp.{IsTotalOrder}
use Rattle.std.specs.List.{AllByRecursion, AllWithin, HoldsAt, find}
use Rattle.std.specs.List.Sorted.{IsStrictlySortedBy, IsNonDecreasingBy, IsBinarySearchResult, IsSearchInRange}
use Rattle.std.specs.Ordering.{is_lt, is_eq, is_gt, ordering_index, ordering_reverse}
use Rattle.tf_state_data.specs.Order.{at_key, before, after, IsAt, IsGapFor}

-- nothing is in order
pub none_sorted : {K : Type 0} (cmp : K → K → Ordering) → IsStrictlySortedBy cmp []
unfolding IsStrictlySortedBy
none_sorted cmp = tt

filter-kept : {A : Type 0} (p : A → Bool) (x : A) (xs : List A) → p x ≡ true → filter p (x ∷ xs) ≡ x ∷ filter p xs
filter-kept p x xs e = rw e refl

filter-left : {A : Type 0} (p : A → Bool) (x : A) (xs : List A) → p x ≡ false → filter p (x ∷ xs) ≡ filter p xs
filter-left p x xs e = rw e refl

find-here : {A : Type 0} (p : A → Bool) (x : A) (xs : List A) → p x ≡ true → find p (x ∷ xs) ≡ Some x
find-here p x xs e = rw e refl

find-later : {A : Type 0} (p : A → Bool) (x : A) (xs : List A) → p x ≡ false → find p (x ∷ xs) ≡ find p xs
find-later p x xs e = rw e refl

module _ {A K : Type 0} (key : A → K) (cmp : K → K → Ordering) (k : K) where
  -- one more before the key
  pub before-less : (x : A) (xs : List A) → cmp (key x) k ≡ Less → before key cmp k (x ∷ xs) ≡ x ∷ before key cmp k xs
  before-less x xs e = filter-kept (λ a. is_lt (cmp (key a) k)) x xs (ap is_lt e)

  pub after-less : (x : A) (xs : List A) → cmp (key x) k ≡ Less → after key cmp k (x ∷ xs) ≡ after key cmp k xs
  after-less x xs e = filter-left (λ a. is_gt (cmp (key a) k)) x xs (ap is_gt e)

  found-less : (x : A) (xs : List A) → cmp (key x) k ≡ Less → at_key key cmp k (x ∷ xs) ≡ at_key key cmp k xs
  found-less x xs e = find-later (λ a. is_eq (cmp (key a) k)) x xs (ap is_eq e)

  pub before-equal : (x : A) (xs : List A) → cmp (key x) k ≡ Equal → before key cmp k (x ∷ xs) ≡ before key cmp k xs
  before-equal x xs e = filter-left (λ a. is_lt (cmp (key a) k)) x xs (ap is_lt e)

  pub after-equal : (x : A) (xs : List A) → cmp (key x) k ≡ Equal → after key cmp k (x ∷ xs) ≡ after key cmp k xs
  after-equal x xs e = filter-left (λ a. is_gt (cmp (key a) k)) x xs (ap is_gt e)

  found-equal : (x : A) (xs : List A) → cmp (key x) k ≡ Equal → at_key key cmp k (x ∷ xs) ≡ Some x
  found-equal x xs e = find-here (λ a. is_eq (cmp (key a) k)) x xs (ap is_eq e)

  pub before-greater : (x : A) (xs : List A) → cmp (key x) k ≡ Greater → before key cmp k (x ∷ xs) ≡ before key cmp k xs
  before-greater x xs e = filter-left (λ a. is_lt (cmp (key a) k)) x xs (ap is_lt e)

  pub after-greater : (x : A) (xs : List A) → cmp (key x) k ≡ Greater → after key cmp k (x ∷ xs) ≡ x ∷ after key cmp k xs
  after-greater x xs e = filter-kept (λ a. is_gt (cmp (key a) k)) x xs (ap is_gt e)

  found-greater : (x : A) (xs : List A) → cmp (key x) k ≡ Greater → at_key key cmp k (x ∷ xs) ≡ at_key key cmp k xs
  found-greater x xs e = find-later (λ a. is_eq (cmp (key a) k)) x xs (ap is_eq e)

  -- where all have keys after it
  pub all_after : (xs : List A) → AllByRecursion (λ j. cmp j k ≡ Greater) (map key xs) → (before key cmp k xs ≡ []) × (after key cmp k xs ≡ xs) × (at_key key cmp k xs ≡ None)
  all_after [] h = (refl, refl, refl)
  all_after (x ∷ xs) h =
      let rest = all_after xs h.1 in
      (before-greater x xs h.0 ∙ rest.0, after-greater x xs h.0 ∙ ap (λ ys. x ∷ ys) rest.1, found-greater x xs h.0 ∙ rest.2)

pub all_mono : {K : Type 0} (P Q : K → Type 0) (ks : List K) → ((k : K) → P k → Q k) → AllByRecursion P ks → AllByRecursion Q ks
all_mono P Q [] f h = tt
all_mono P Q (k ∷ ks) f h = (f k h.0, all_mono P Q ks f h.1)

module _ {K : Type 0} (cmp : K → K → Ordering) (total : IsTotalOrder cmp) where
  pub flipped : (a b : K) → cmp a b ≡ Less → cmp b a ≡ Greater
  flipped a b e = total.antisymm b a ∙ ap ordering_reverse e

  pub flopped : (a b : K) → cmp a b ≡ Greater → cmp b a ≡ Less
  flopped a b e = total.antisymm b a ∙ ap ordering_reverse e

  -- what comes after something at a key, or after it, comes after the key
  pub after_equal : (k a b : K) → cmp a k ≡ Equal → cmp a b ≡ Less → cmp b k ≡ Greater
  after_equal k a b e less = flipped k b (sym (total.congr a k b e) ∙ less)

  pub after_greater : (k a b : K) → cmp a k ≡ Greater → cmp a b ≡ Less → cmp b k ≡ Greater
  after_greater k a b e less = flipped k b (total.trans k a b (flopped a k e) less)

  -- what comes before something at a key comes before the key
  pub before_equal : (k a b : K) → cmp b k ≡ Equal → cmp a b ≡ Less → cmp a k ≡ Less
  before_equal k a b e less = flopped k a (sym (total.congr b k a e) ∙ flipped a b less)

  index_at : (k a b : K) (o : Ordering) → cmp a k ≡ o → cmp a b ≡ Less → ordering_index o ≤ ordering_index (cmp b k)
  index_at k a b Less e less = omega arith
  index_at k a b Equal e less = let up = ap ordering_index (after_equal k a b e less) in omega (arith, up)
  index_at k a b Greater e less = let up = ap ordering_index (after_greater k a b e less) in omega (arith, up)

  -- what comes after something doesn't come earlier to a key
  pub index_rises : (k a b : K) → cmp a b ≡ Less → ordering_index (cmp a k) ≤ ordering_index (cmp b k)
  index_rises k a b less = index_at k a b (cmp a k) refl less

module _ {X A K : Type 0} (f : X → A) (key : A → K) (cmp : K → K → Ordering) (total : IsTotalOrder cmp) (k : K) where
  picked : (P : K → Type 0) (xs : List X) (i : ℕ) (d : X) → i < length xs → AllByRecursion P (map key (map f xs)) → P (key (f (get_or xs i d)))
  picked P [] i d within h = absurd (omega (arith, within))
  picked P (x ∷ xs) zero d within h = h.0
  picked P (x ∷ xs) (suc i) d within h = picked P xs i d (omega (arith, within)) h.1

  -- in a list in order, the answers of a binary search for a key rise
  pub answers_rise : (xs : List X) → IsStrictlySortedBy cmp (map key (map f xs)) → IsNonDecreasingBy (λ x. ordering_index (cmp (key (f x)) k)) xs
  unfolding IsStrictlySortedBy
  answers_rise [] sorted i j d le within = absurd (omega (arith, within))
  answers_rise (x ∷ xs) sorted zero zero d le within = omega arith
  answers_rise (x ∷ xs) sorted zero (suc j) d le within =
      index_rises cmp total k (key (f x)) (key (f (get_or xs j d))) (picked (λ b. cmp (key (f x)) b ≡ Less) xs j d (omega (arith, within)) sorted.0)
  answers_rise (x ∷ xs) sorted (suc i) zero d le within = absurd (omega (arith, le))
  answers_rise (x ∷ xs) sorted (suc i) (suc j) d le within = answers_rise xs sorted.1 i j d (omega (arith, le)) (omega (arith, within))

  -- where the search found no element
  pub gap : (xs : List X) (i : ℕ) → i ≤ length xs → AllWithin (λ x. cmp (key (f x)) k ≡ Less) xs 0 i → AllWithin (λ x. cmp (key (f x)) k ≡ Greater) xs i (length xs) → IsGapFor key cmp k (map f xs) i
  gap [] zero le low high = record { within = omega arith; lower = refl; upper = refl; absent = refl }
  gap [] (suc i) le low high = absurd (omega (arith, le))
  gap (x ∷ xs) zero le low high =
      let e = high 0 x (omega arith) (omega arith) in
      let rest = gap xs zero (omega arith) (λ j d a b. absurd (omega (arith, b))) (λ j d a b. high (suc j) d (omega arith) (omega (arith, b))) in
      record {
        within = omega arith;
        lower = rest.lower ∙ sym (before-greater key cmp k (f x) (map f xs) e);
        upper = ap (λ ys. f x ∷ ys) rest.upper ∙ sym (after-greater key cmp k (f x) (map f xs) e);
        absent = found-greater key cmp k (f x) (map f xs) e ∙ rest.absent;
      }
  gap (x ∷ xs) (suc i) le low high =
      let e = low 0 x (omega arith) (omega arith) in
      let rest = gap xs i (omega (arith, le)) (λ j d a b. low (suc j) d (omega arith) (omega (arith, b))) (λ j d a b. high (suc j) d (omega (arith, a)) (omega (arith, b))) in
      record {
        within = omega (arith, rest.within);
        lower = ap (λ ys. f x ∷ ys) rest.lower ∙ sym (before-less key cmp k (f x) (map f xs) e);
        upper = rest.upper ∙ sym (after-less key cmp k (f x) (map f xs) e);
        absent = found-less key cmp k (f x) (map f xs) e ∙ rest.absent;
      }

  -- where it found one
  pub hit : (xs : List X) → IsStrictlySortedBy cmp (map key (map f xs)) → (i : ℕ) → i < length xs → HoldsAt (λ x. cmp (key (f x)) k ≡ Equal) xs i → IsAt key cmp k (map f xs) i
  unfolding IsStrictlySortedBy
  hit [] sorted i within equal = absurd (omega (arith, within))
  hit (x ∷ xs) sorted zero within equal =
      let e = equal x in
      let later = all_after key cmp k (map f xs) (all_mono (λ b. cmp (key (f x)) b ≡ Less) (λ b. cmp b k ≡ Greater) (map key (map f xs)) (λ b less. after_equal cmp total k (key (f x)) b e less) sorted.0) in
      record {
        within = omega arith;
        lower = sym (before-equal key cmp k (f x) (map f xs) e ∙ later.0);
        upper = sym (after-equal key cmp k (f x) (map f xs) e ∙ later.1);
        found = λ d. found-equal key cmp k (f x) (map f xs) e;
      }
  hit (x ∷ xs) sorted (suc i) within equal =
      let rest = hit xs sorted.1 i (omega (arith, within)) (λ d. equal d) in
      let e = before_equal cmp total k (key (f x)) (key (f (get_or xs i x))) (equal x) (picked (λ b. cmp (key (f x)) b ≡ Less) xs i x (omega (arith, within)) sorted.0) in
      record {
        within = omega (arith, rest.within);
        lower = ap (λ ys. f x ∷ ys) rest.lower ∙ sym (before-less key cmp k (f x) (map f xs) e);
        upper = rest.upper ∙ sym (after-less key cmp k (f x) (map f xs) e);
        found = λ d. found-less key cmp k (f x) (map f xs) e ∙ rest.found d;
      }

  -- what a binary search answers
  pub sought : (xs : List X) → IsStrictlySortedBy cmp (map key (map f xs)) → (r : Result ℕ ℕ) → IsSearchInRange r (length xs) → IsBinarySearchResult (λ x. cmp (key (f x)) k) xs r → IfOk r (IsAt key cmp k (map f xs)) × IfErr r (IsGapFor key cmp k (map f xs))
  sought xs sorted (Ok i) range equal = (hit xs sorted i range equal, tt)
  sought xs sorted (Err i) range parted = let p = parted (answers_rise xs sorted) in (tt, gap xs i range p.0 p.1)
