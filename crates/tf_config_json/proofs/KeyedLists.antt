-- Lists in strictly ascending order of keys: what is in them, what a put leaves, and when two are the same.
use Rattle.std.proofs.Common.{◌≡◌, ◌⊎◌, inl, inr, zero, suc, List, [], ◌∷◌, Ordering, Less, Equal, Greater, refl, sym, ap, ◌∙◌, subst, arith}
use Rattle.std.proofs.lemmas.Cmp.{tied_itself}
use Rattle.std.proofs.lemmas.Map.Lookups.{CmpEqualImpliesEq}
use Rattle.std.specs.Cmp.{IsTotalOrder}
use Rattle.std.specs.List.{AllByRecursion}
use Rattle.std.specs.List.Sorted.{IsStrictlySortedBy}
use Rattle.std.specs.Ordering.{match_ordering, ordering_reverse}
use Rattle.std.specs.Prelude.{Contains}
use Rattle.tf_config_json.specs.Configuration.{IsListOf}

-- ---- what is in a list

-- an item is in a list
abbrev pub In : {A : Type 0} → List A → A → Type 0
In [] y = ⊥
In (x ∷ xs) y = (x ≡ y) ⊎ In xs y

pub contained : {A : Type 0} (xs : List A) (y : A) → In xs y → Contains xs y
contained [] y h = absurd h
contained (x ∷ xs) y (inl here) = (0, omega arith, here)
contained (x ∷ xs) y (inr later) = let c = contained xs y later in (suc c.0, omega (arith, c.1), c.2)

pub in_from : {A : Type 0} (xs : List A) (y : A) → Contains xs y → In xs y
in_from [] y c = absurd (omega (arith, c.1))
in_from (x ∷ xs) y (zero, h, e) = inl e
in_from (x ∷ xs) y (suc k, h, e) = inr (in_from xs y (k, omega arith, e))

pub all_at : {A : Type 0} (P : A → Type 0) (xs : List A) → AllByRecursion P xs → (y : A) → In xs y → P y
all_at P [] all y h = absurd h
all_at P (x ∷ xs) all y (inl here) = subst P here all.0
all_at P (x ∷ xs) all y (inr later) = all_at P xs all.1 y later

pub all_from : {A : Type 0} (P : A → Type 0) (xs : List A) → ((y : A) → In xs y → P y) → AllByRecursion P xs
all_from P [] h = tt
all_from P (x ∷ xs) h = (h x (inl refl), all_from P xs (λ y later. h y (inr later)))

-- the items so far: each is one of these, and all of these are there whose keys were met
pub record Collected {A K : Type 0} (key : A → K) (cmp : K → K → Ordering) (Is : A → Type 0) (Met : K → Type 0) (xs : List A) : Type 0 where
  pub order : IsStrictlySortedBy (λ x y. cmp (key x) (key y)) xs
  pub sound : (x : A) → In xs x → Is x
  pub whole : (x : A) → Is x → Met (key x) → In xs x

module _ {A K : Type 0} (key : A → K) (cmp : K → K → Ordering) (total : IsTotalOrder cmp) (exact : CmpEqualImpliesEq cmp) where
  abbrev pub IsAscending : List A → Type 0
  IsAscending xs = IsStrictlySortedBy (λ x y. cmp (key x) (key y)) xs

  -- a key is below those of a list
  abbrev IsBelow : A → List A → Type 0
  IsBelow x xs = AllByRecursion (λ y. cmp (key x) (key y) ≡ Less) xs

  -- ---- puts

  -- the list with an item at its key
  abbrev pub put : A → List A → List A
  put x [] = x ∷ []
  put x (y ∷ ys) = match_ordering (cmp (key x) (key y)) (x ∷ y ∷ ys) (x ∷ ys) (y ∷ put x ys)

  put_has_at : (o : Ordering) (x y : A) (ys : List A) → In (put x ys) x → In (match_ordering o (x ∷ y ∷ ys) (x ∷ ys) (y ∷ put x ys)) x
  put_has_at Less x y ys h = inl refl
  put_has_at Equal x y ys h = inl refl
  put_has_at Greater x y ys h = inr h

  pub put_has : (x : A) (xs : List A) → In (put x xs) x
  put_has x [] = inl refl
  put_has x (y ∷ ys) = put_has_at (cmp (key x) (key y)) x y ys (put_has x ys)

  put_keeps_at : (o : Ordering) (x y z : A) (ys : List A) → cmp (key x) (key y) ≡ o → ¬ (key z ≡ key x) → (y ≡ z) ⊎ In ys z → (In ys z → In (put x ys) z)
      → In (match_ordering o (x ∷ y ∷ ys) (x ∷ ys) (y ∷ put x ys)) z
  put_keeps_at Less x y z ys is apart h more = inr h
  put_keeps_at Equal x y z ys is apart (inl same) more = absurd (apart (sym (exact (key x) (key y) is ∙ ap key same)))
  put_keeps_at Equal x y z ys is apart (inr later) more = inr later
  put_keeps_at Greater x y z ys is apart (inl same) more = inl same
  put_keeps_at Greater x y z ys is apart (inr later) more = inr (more later)

  pub put_keeps : (x z : A) (xs : List A) → ¬ (key z ≡ key x) → In xs z → In (put x xs) z
  put_keeps x z [] apart h = absurd h
  put_keeps x z (y ∷ ys) apart h = put_keeps_at (cmp (key x) (key y)) x y z ys refl apart h (put_keeps x z ys apart)

  put_only_at : (o : Ordering) (x y z : A) (ys : List A) → (In (put x ys) z → (x ≡ z) ⊎ In ys z) → In (match_ordering o (x ∷ y ∷ ys) (x ∷ ys) (y ∷ put x ys)) z → (x ≡ z) ⊎ In (y ∷ ys) z
  put_only_at Less x y z ys more h = h
  put_only_at Equal x y z ys more (inl same) = inl same
  put_only_at Equal x y z ys more (inr later) = inr (inr later)
  put_only_at Greater x y z ys more (inl same) = inr (inl same)
  put_only_at Greater x y z ys more (inr later) = elim (more later) [ inl same ↦ inl same | inr old ↦ inr (inr old) ]

  pub put_only : (x z : A) (xs : List A) → In (put x xs) z → (x ≡ z) ⊎ In xs z
  put_only x z [] h = h
  put_only x z (y ∷ ys) h = put_only_at (cmp (key x) (key y)) x y z ys (put_only x z ys) h

  below_put : (y x : A) (xs : List A) → cmp (key y) (key x) ≡ Less → IsBelow y xs → IsBelow y (put x xs)
  below_put y x xs below all =
      all_from (λ z. cmp (key y) (key z) ≡ Less) (put x xs)
      (λ z h. elim (put_only x z xs h) [ inl same ↦ subst (λ w. cmp (key y) (key w) ≡ Less) same below | inr old ↦ all_at (λ w. cmp (key y) (key w) ≡ Less) xs all z old ])

  ascends_at : (o : Ordering) (x y : A) (ys : List A) → cmp (key x) (key y) ≡ o → IsBelow y ys → IsAscending ys → IsAscending (put x ys) → IsAscending (match_ordering o (x ∷ y ∷ ys) (x ∷ ys) (y ∷ put x ys))
  unfolding IsStrictlySortedBy
  ascends_at Less x y ys is after sorted more =
      let later = all_from (λ z. cmp (key x) (key z) ≡ Less) ys (λ z h. total.trans (key x) (key y) (key z) is (all_at (λ w. cmp (key y) (key w) ≡ Less) ys after z h)) in
      ((is, later), (after, sorted))
  ascends_at Equal x y ys is after sorted more = (subst (λ k. AllByRecursion (λ z. cmp k (key z) ≡ Less) ys) (sym (exact (key x) (key y) is)) after, sorted)
  ascends_at Greater x y ys is after sorted more = (below_put y x ys (total.antisymm (key y) (key x) ∙ ap ordering_reverse is) after, more)

  pub ascends_put : (x : A) (xs : List A) → IsAscending xs → IsAscending (put x xs)
  unfolding IsStrictlySortedBy
  ascends_put x [] sorted = (tt, tt)
  ascends_put x (y ∷ ys) sorted = ascends_at (cmp (key x) (key y)) x y ys refl sorted.0 sorted.1 (ascends_put x ys sorted.1)

  -- ---- lists with the same items

  not_itself : (k : K) → cmp k k ≡ Less → ⊥
  not_itself k h = let no : Equal ≡ Less = sym (tied_itself total k) ∙ h in absurd (cc)

  same_head : (x y : A) (xs ys : List A) → IsBelow x xs → IsBelow y ys → (y ≡ x) ⊎ In ys x → (x ≡ y) ⊎ In xs y → x ≡ y
  same_head x y xs ys a b (inl h) j = sym h
  same_head x y xs ys a b (inr h) (inl j) = j
  same_head x y xs ys a b (inr h) (inr j) =
      let up : cmp (key x) (key y) ≡ Less = all_at (λ z. cmp (key x) (key z) ≡ Less) xs a y j in
      let down : cmp (key y) (key x) ≡ Less = all_at (λ z. cmp (key y) (key z) ≡ Less) ys b x h in
      absurd (not_itself (key x) (total.trans (key x) (key y) (key x) up down))

  in_rest : (x y z : A) (ys : List A) → x ≡ y → cmp (key x) (key z) ≡ Less → (y ≡ z) ⊎ In ys z → In ys z
  in_rest x y z ys same below (inl h) = absurd (not_itself (key z) (subst (λ w. cmp (key w) (key z) ≡ Less) (same ∙ h) below))
  in_rest x y z ys same below (inr h) = h

  pub same_list : (xs ys : List A) → IsAscending xs → IsAscending ys → ((z : A) → In xs z → In ys z) → ((z : A) → In ys z → In xs z) → xs ≡ ys
  unfolding IsStrictlySortedBy
  same_list [] [] a b to from = refl
  same_list [] (y ∷ ys) a b to from = absurd (from y (inl refl))
  same_list (x ∷ xs) [] a b to from = absurd (to x (inl refl))
  same_list (x ∷ xs) (y ∷ ys) a b to from =
      let head : x ≡ y = same_head x y xs ys a.0 b.0 (to x (inl refl)) (from y (inl refl)) in
      let rest : xs ≡ ys = same_list xs ys a.1 b.1
      (λ z h. in_rest x y z ys head (all_at (λ w. cmp (key x) (key w) ≡ Less) xs a.0 z h) (to z (inr h)))
      (λ z h. in_rest y x z xs (sym head) (all_at (λ w. cmp (key y) (key w) ≡ Less) ys b.0 z h) (from z (inr h))) in
      ap (λ w. w ∷ xs) head ∙ ap (λ ws. y ∷ ws) rest

  pub one_list : (Is : A → Type 0) (xs ys : List A) → IsListOf (λ x y. cmp (key x) (key y)) Is xs → IsListOf (λ x y. cmp (key x) (key y)) Is ys → xs ≡ ys
  one_list Is xs ys h j =
      same_list xs ys h.order j.order (λ z c. in_from ys z ((j.exact z).1 ((h.exact z).0 (contained xs z c)))) (λ z c. in_from xs z ((h.exact z).1 ((j.exact z).0 (contained ys z c))))

  -- ---- items one after another

  same_or_not : (o : Ordering) (k l : K) → cmp k l ≡ o → (k ≡ l) ⊎ (k ≡ l → ⊥)
  same_or_not Less k l is = inr (λ same. let no : Equal ≡ Less = sym (tied_itself total k) ∙ (ap (cmp k) same ∙ is) in absurd (cc))
  same_or_not Equal k l is = inl (exact k l is)
  same_or_not Greater k l is = inr (λ same. let no : Equal ≡ Greater = sym (tied_itself total k) ∙ (ap (cmp k) same ∙ is) in absurd (cc))

  module _ (Is : A → Type 0) where
    pub collected_none : (Met : K → Type 0) → ((x : A) → Is x → Met (key x) → ⊥) → Collected key cmp Is Met []
    unfolding IsStrictlySortedBy
    collected_none Met none = record { order = tt; sound = λ x h. absurd h; whole = λ x is met. absurd (none x is met) }

    -- the keys that were met may be others, if no item tells them apart
    pub collected_as : (Met Other : K → Type 0) (xs : List A) → ((x : A) → Is x → Other (key x) → Met (key x)) → Collected key cmp Is Met xs → Collected key cmp Is Other xs
    collected_as Met Other xs h c = record { order = c.order; sound = c.sound; whole = λ x is met. c.whole x is (h x is met) }

    pub finished : (Met : K → Type 0) (xs : List A) → ((x : A) → Is x → Met (key x)) → Collected key cmp Is Met xs → IsListOf (λ x y. cmp (key x) (key y)) Is xs
    finished Met xs all c = record { order = c.order; exact = λ x. (λ h. c.sound x (in_from xs x h), λ is. contained xs x (c.whole x is (all x is))) }

    module _ (one : (x y : A) → Is x → Is y → key x ≡ key y → x ≡ y) where
      whole_put : (Met : K → Type 0) (xs : List A) (x y : A) → Is x → Collected key cmp Is Met xs → Is y → (key y ≡ key x) ⊎ Met (key y) → (key y ≡ key x) ⊎ (key y ≡ key x → ⊥) → In (put x xs) y
      whole_put Met xs x y is c js met (inl same) = subst (λ z. In (put x xs) z) (one x y is js (sym same)) (put_has x xs)
      whole_put Met xs x y is c js (inl here) (inr apart) = absurd (apart here)
      whole_put Met xs x y is c js (inr met) (inr apart) = put_keeps x y xs apart (c.whole y js met)

      -- one more item is put in
      pub collected_put : (Met : K → Type 0) (xs : List A) (x : A) → Is x → Collected key cmp Is Met xs → Collected key cmp Is (λ k. (k ≡ key x) ⊎ Met k) (put x xs)
      collected_put Met xs x is c =
          record {
            order = ascends_put x xs c.order;
            sound = λ y h. elim (put_only x y xs h) [ inl same ↦ subst Is same is | inr old ↦ c.sound y old ];
            whole = λ y js met. whole_put Met xs x y is c js met (same_or_not (cmp (key y) (key x)) (key y) (key x) refl);
          }
