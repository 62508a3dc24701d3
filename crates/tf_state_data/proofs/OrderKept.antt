-- What was put in order, and what is left of it, is in order.
use Rattle.std.proofs.Common.{◌≡◌, Bool, true, false, cond, List, [], ◌∷◌, ◌++◌, map, filter, Ordering, Less, Equal, Greater, refl, sym, ap, ap₂, ◌∙◌, subst}
use Rattle.std.specs.Cmp.{IsTotalOrder}
use Rattle.std.specs.List.{AllByRecursion}
use Rattle.std.specs.List.Sorted.{IsStrictlySortedBy}
use Rattle.tf_state_data.specs.Order.{before, after, with_one, without_one}
use Rattle.tf_state_data.proofs.Sorted.{all_mono, flopped, after_greater, all_after, before-less, before-equal, before-greater, after-less, after-equal, after-greater}

kept_at : {A K : Type 0} (key : A → K) (P : K → Type 0) (b : Bool) (x : A) (xs : List A) → P (key x) → AllByRecursion P (map key xs) → AllByRecursion P (map key (cond b (x ∷ xs) xs))
kept_at key P true x xs p h = (p, h)
kept_at key P false x xs p h = h

kept : {A K : Type 0} (key : A → K) (P : K → Type 0) (p : A → Bool) (xs : List A) → AllByRecursion P (map key xs) → AllByRecursion P (map key (filter p xs))
kept key P p [] h = tt
kept key P p (x ∷ xs) h = kept_at key P (p x) x (filter p xs) h.0 (kept key P p xs h.1)

joined : {A K : Type 0} (key : A → K) (P : K → Type 0) (xs ys : List A) → AllByRecursion P (map key xs) → AllByRecursion P (map key ys) → AllByRecursion P (map key (xs ++ ys))
joined key P [] ys h k = k
joined key P (x ∷ xs) ys h k = (h.0, joined key P xs ys h.1 k)

module _ {A K : Type 0} (key : A → K) (cmp : K → K → Ordering) (total : IsTotalOrder cmp) where
  -- what stands after something that comes after a key comes after the key
  later_after : (k : K) (x : A) (xs : List A) → cmp (key x) k ≡ Greater → AllByRecursion (λ b. cmp (key x) b ≡ Less) (map key xs) → AllByRecursion (λ b. cmp b k ≡ Greater) (map key xs)
  later_after k x xs e h = all_mono (λ b. cmp (key x) b ≡ Less) (λ b. cmp b k ≡ Greater) (map key xs) (λ b less. after_greater cmp total k (key x) b e less) h

  with-at : (a x : A) (xs : List A) (o : Ordering) → cmp (key x) (key a) ≡ o → IsStrictlySortedBy cmp (map key (x ∷ xs)) → IsStrictlySortedBy cmp (map key (with_one key cmp a xs)) → IsStrictlySortedBy cmp (map key (with_one key cmp a (x ∷ xs)))
  unfolding IsStrictlySortedBy
  with-at a x xs Less e sorted rest =
      let is : with_one key cmp a (x ∷ xs) ≡ x ∷ with_one key cmp a xs = ap₂ (λ b c. b ++ a ∷ c) (before-less key cmp (key a) x xs e) (after-less key cmp (key a) x xs e) in
      let P : K → Type 0 = λ b. cmp (key x) b ≡ Less in
      subst (λ ys. IsStrictlySortedBy cmp (map key ys)) (sym is)
      (joined key P (before key cmp (key a) xs) (a ∷ after key cmp (key a) xs) (kept key P _ xs sorted.0) (e, kept key P _ xs sorted.0), rest)
  with-at a x xs Equal e sorted rest =
      let is : with_one key cmp a (x ∷ xs) ≡ with_one key cmp a xs = ap₂ (λ b c. b ++ a ∷ c) (before-equal key cmp (key a) x xs e) (after-equal key cmp (key a) x xs e) in
      subst (λ ys. IsStrictlySortedBy cmp (map key ys)) (sym is) rest
  with-at a x xs Greater e sorted rest =
      let later = all_after key cmp (key a) xs (later_after (key a) x xs e sorted.0) in
      let is : with_one key cmp a (x ∷ xs) ≡ a ∷ x ∷ xs =
      ap₂ (λ b c. b ++ a ∷ c) (before-greater key cmp (key a) x xs e ∙ later.0) (after-greater key cmp (key a) x xs e ∙ ap (λ ys. x ∷ ys) later.1) in
      let below = flopped cmp total (key x) (key a) e in
      subst (λ ys. IsStrictlySortedBy cmp (map key ys)) (sym is)
      ((below, all_mono (λ b. cmp (key x) b ≡ Less) (λ b. cmp (key a) b ≡ Less) (map key xs) (λ b less. total.trans (key a) (key x) b below less) sorted.0), sorted)

  -- a list with one element more is in order
  pub with-sorted : (a : A) (xs : List A) → IsStrictlySortedBy cmp (map key xs) → IsStrictlySortedBy cmp (map key (with_one key cmp a xs))
  unfolding IsStrictlySortedBy
  with-sorted a [] sorted = (tt, tt)
  with-sorted a (x ∷ xs) sorted = with-at a x xs (cmp (key x) (key a)) refl sorted (with-sorted a xs sorted.1)

  without-at : (k : K) (x : A) (xs : List A) (o : Ordering) → cmp (key x) k ≡ o → IsStrictlySortedBy cmp (map key (x ∷ xs)) → IsStrictlySortedBy cmp (map key (without_one key cmp k xs)) → IsStrictlySortedBy cmp (map key (without_one key cmp k (x ∷ xs)))
  unfolding IsStrictlySortedBy
  without-at k x xs Less e sorted rest =
      let is : without_one key cmp k (x ∷ xs) ≡ x ∷ without_one key cmp k xs = ap₂ (λ b c. b ++ c) (before-less key cmp k x xs e) (after-less key cmp k x xs e) in
      let P : K → Type 0 = λ b. cmp (key x) b ≡ Less in
      subst (λ ys. IsStrictlySortedBy cmp (map key ys)) (sym is) (joined key P (before key cmp k xs) (after key cmp k xs) (kept key P _ xs sorted.0) (kept key P _ xs sorted.0), rest)
  without-at k x xs Equal e sorted rest =
      let is : without_one key cmp k (x ∷ xs) ≡ without_one key cmp k xs = ap₂ (λ b c. b ++ c) (before-equal key cmp k x xs e) (after-equal key cmp k x xs e) in
      subst (λ ys. IsStrictlySortedBy cmp (map key ys)) (sym is) rest
  without-at k x xs Greater e sorted rest =
      let later = all_after key cmp k xs (later_after k x xs e sorted.0) in
      let is : without_one key cmp k (x ∷ xs) ≡ x ∷ xs = ap₂ (λ b c. b ++ c) (before-greater key cmp k x xs e ∙ later.0) (after-greater key cmp k x xs e ∙ ap (λ ys. x ∷ ys) later.1) in
      subst (λ ys. IsStrictlySortedBy cmp (map key ys)) (sym is) sorted

  -- a list with one element less is in order
  pub without-sorted : (k : K) (xs : List A) → IsStrictlySortedBy cmp (map key xs) → IsStrictlySortedBy cmp (map key (without_one key cmp k xs))
  unfolding IsStrictlySortedBy
  without-sorted k [] sorted = tt
  without-sorted k (x ∷ xs) sorted = without-at k x xs (cmp (key x) k) refl sorted (without-sorted k xs sorted.1)
