-- A put and a remove change what stands at one key alone.
use Rattle.std.proofs.Common.{◌≡◌, Bool, true, false, cond, List, [], ◌∷◌, ◌++◌, filter, Some, None, Ordering, Less, Equal, Greater, is_eq, refl, sym, ap, ◌∙◌}
use Rattle.std.specs.Cmp.{IsTotalOrder}
use Rattle.std.specs.List.{find}
use Rattle.std.specs.Ordering.{is_lt, is_gt, ordering_reverse}
use Rattle.std.proofs.lemmas.Cmp.{tied_itself}
use Rattle.tf_state_data.specs.Order.{at_key, before, after, with_one, without_one}

find_at : {A : Type 0} (q : A → Bool) (b c : Bool) (x : A) (xs rest : List A) → q x ≡ b → (b ≡ true → c ≡ true) → find q rest ≡ find q xs → find q (cond c (x ∷ rest) rest) ≡ find q (x ∷ xs)
find_at q true true x xs rest e f h = rw e refl
find_at q true false x xs rest e f h = let g = f refl in absurd (cc)
find_at q false true x xs rest e f h = rw e h
find_at q false false x xs rest e f h = rw e h

-- what is sought is found among those that were kept, where each of its kind is kept
found_kept : {A : Type 0} (q p : A → Bool) → ((x : A) → q x ≡ true → p x ≡ true) → (xs : List A) → find q (filter p xs) ≡ find q xs
found_kept q p f [] = refl
found_kept q p f (x ∷ xs) = find_at q (q x) (p x) x xs (filter p xs) refl (f x) (found_kept q p f xs)

lost_at : {A : Type 0} (q : A → Bool) (b c : Bool) (x : A) (rest : List A) → q x ≡ b → (b ≡ true → c ≡ false) → find q rest ≡ None → find q (cond c (x ∷ rest) rest) ≡ None
lost_at q true true x rest e f h = let g = f refl in absurd (cc)
lost_at q true false x rest e f h = h
lost_at q false true x rest e f h = rw e h
lost_at q false false x rest e f h = h

-- and isn't, where none of its kind is
found_not : {A : Type 0} (q p : A → Bool) → ((x : A) → q x ≡ true → p x ≡ false) → (xs : List A) → find q (filter p xs) ≡ None
found_not q p f [] = refl
found_not q p f (x ∷ xs) = lost_at q (q x) (p x) x (filter p xs) refl (f x) (found_not q p f xs)

behind_at : {A : Type 0} (q : A → Bool) (b : Bool) (x : A) (xs ys : List A) → q x ≡ b → find q (x ∷ xs) ≡ None → (find q xs ≡ None → find q (xs ++ ys) ≡ find q ys) → find q (x ∷ xs ++ ys) ≡ find q ys
behind_at q true x xs ys e h more = let k : Some x ≡ None = sym (rw e refl) ∙ h in absurd (cc)
behind_at q false x xs ys e h more = rw e (more (sym (rw e refl) ∙ h))

-- behind a list in which it isn't
find_behind : {A : Type 0} (q : A → Bool) (xs ys : List A) → find q xs ≡ None → find q (xs ++ ys) ≡ find q ys
find_behind q [] ys h = refl
find_behind q (x ∷ xs) ys h = behind_at q (q x) x xs ys refl h (find_behind q xs ys)

front_at : {A : Type 0} (q : A → Bool) (b : Bool) (x : A) (xs ys : List A) → q x ≡ b → find q (xs ++ ys) ≡ find q xs → find q (x ∷ xs ++ ys) ≡ find q (x ∷ xs)
front_at q true x xs ys e h = rw e refl
front_at q false x xs ys e h = rw e h

-- before a list in which it isn't
find_front : {A : Type 0} (q : A → Bool) (xs ys : List A) → find q ys ≡ None → find q (xs ++ ys) ≡ find q xs
find_front q [] ys h = h
find_front q (x ∷ xs) ys h = front_at q (q x) x xs ys refl (find_front q xs ys h)

equal_from : (o : Ordering) → is_eq o ≡ true → o ≡ Equal
equal_from Equal e = refl
equal_from Less e = absurd (cc)
equal_from Greater e = absurd (cc)

module _ {A K : Type 0} (key : A → K) (cmp : K → K → Ordering) (total : IsTotalOrder cmp) where
  -- of a key's kind, by its place beside another key
  kind : (k j : K) (f : Ordering → Bool) (b : Bool) → f (cmp k j) ≡ b → (x : A) → is_eq (cmp (key x) k) ≡ true → f (cmp (key x) j) ≡ b
  kind k j f b is x e = ap f (total.congr (key x) k j (equal_from (cmp (key x) k) e)) ∙ is

  not_at : (k j : K) (o : Ordering) → cmp k j ≡ o → is_eq o ≡ false → is_eq (cmp j k) ≡ false
  not_at k j Less e n = ap is_eq (total.antisymm j k ∙ ap ordering_reverse e)
  not_at k j Greater e n = ap is_eq (total.antisymm j k ∙ ap ordering_reverse e)
  not_at k j Equal e n = absurd (cc)

  none_here : (k : K) (new : A) (xs : List A) → is_eq (cmp (key new) k) ≡ false → at_key key cmp k (new ∷ xs) ≡ at_key key cmp k xs
  none_here k new xs e = rw e refl

  others_put : (k : K) (new : A) (xs : List A) (o : Ordering) → cmp k (key new) ≡ o → is_eq o ≡ false → at_key key cmp k (with_one key cmp new xs) ≡ at_key key cmp k xs
  others_put k new xs Less e n =
      let q : A → Bool = λ x. is_eq (cmp (key x) k) in
      let j = key new in
      let none = none_here k new (after key cmp j xs) (not_at k j Less e n) ∙ found_not q (λ x. is_gt (cmp (key x) j)) (kind k j is_gt false (ap is_gt e)) xs in
      find_front q (before key cmp j xs) (new ∷ after key cmp j xs) none ∙ found_kept q (λ x. is_lt (cmp (key x) j)) (kind k j is_lt true (ap is_lt e)) xs
  others_put k new xs Greater e n =
      let q : A → Bool = λ x. is_eq (cmp (key x) k) in
      let j = key new in
      find_behind q (before key cmp j xs) (new ∷ after key cmp j xs) (found_not q (λ x. is_lt (cmp (key x) j)) (kind k j is_lt false (ap is_lt e)) xs)
      ∙ (none_here k new (after key cmp j xs) (not_at k j Greater e n) ∙ found_kept q (λ x. is_gt (cmp (key x) j)) (kind k j is_gt true (ap is_gt e)) xs)
  others_put k new xs Equal e n = absurd (cc)

  -- at other keys a put changes nothing
  put-others : (k : K) (new : A) (xs : List A) → is_eq (cmp k (key new)) ≡ false → at_key key cmp k (with_one key cmp new xs) ≡ at_key key cmp k xs
  put-others k new xs n = others_put k new xs (cmp k (key new)) refl n

  one_here : (new : A) (xs : List A) → cmp (key new) (key new) ≡ Equal → at_key key cmp (key new) (new ∷ xs) ≡ Some new
  one_here new xs e = let is : is_eq (cmp (key new) (key new)) ≡ true = ap is_eq e in rw is refl

  -- what was put is there
  put-there : (new : A) (xs : List A) → at_key key cmp (key new) (with_one key cmp new xs) ≡ Some new
  put-there new xs =
      let j = key new in
      let same : cmp j j ≡ Equal = tied_itself total j in
      find_behind (λ x. is_eq (cmp (key x) j)) (before key cmp j xs) (new ∷ after key cmp j xs) (found_not (λ x. is_eq (cmp (key x) j)) (λ x. is_lt (cmp (key x) j)) (kind j j is_lt false (ap is_lt same)) xs)
      ∙ one_here new (after key cmp j xs) same

  -- what was taken out is gone
  removed-gone : (j : K) (xs : List A) → at_key key cmp j (without_one key cmp j xs) ≡ None
  removed-gone j xs =
      let q : A → Bool = λ x. is_eq (cmp (key x) j) in
      let same : cmp j j ≡ Equal = tied_itself total j in
      find_behind q (before key cmp j xs) (after key cmp j xs) (found_not q (λ x. is_lt (cmp (key x) j)) (kind j j is_lt false (ap is_lt same)) xs)
      ∙ found_not q (λ x. is_gt (cmp (key x) j)) (kind j j is_gt false (ap is_gt same)) xs

  others_left : (k j : K) (xs : List A) (o : Ordering) → cmp k j ≡ o → is_eq o ≡ false → at_key key cmp k (without_one key cmp j xs) ≡ at_key key cmp k xs
  others_left k j xs Less e n =
      let q : A → Bool = λ x. is_eq (cmp (key x) k) in
      find_front q (before key cmp j xs) (after key cmp j xs) (found_not q (λ x. is_gt (cmp (key x) j)) (kind k j is_gt false (ap is_gt e)) xs)
      ∙ found_kept q (λ x. is_lt (cmp (key x) j)) (kind k j is_lt true (ap is_lt e)) xs
  others_left k j xs Greater e n =
      let q : A → Bool = λ x. is_eq (cmp (key x) k) in
      find_behind q (before key cmp j xs) (after key cmp j xs) (found_not q (λ x. is_lt (cmp (key x) j)) (kind k j is_lt false (ap is_lt e)) xs)
      ∙ found_kept q (λ x. is_gt (cmp (key x) j)) (kind k j is_gt true (ap is_gt e)) xs
  others_left k j xs Equal e n = absurd (cc)

  -- at other keys a remove changes nothing
  removed-others : (k j : K) (xs : List A) → is_eq (cmp k j) ≡ false → at_key key cmp k (without_one key cmp j xs) ≡ at_key key cmp k xs
  removed-others k j xs n = others_left k j xs (cmp k j) refl n

  -- both of a put, and both of a remove
  pub put_changes_one : (new : A) (xs : List A) → (at_key key cmp (key new) (with_one key cmp new xs) ≡ Some new) × ((k : K) → is_eq (cmp k (key new)) ≡ false → at_key key cmp k (with_one key cmp new xs) ≡ at_key key cmp k xs)
  put_changes_one new xs = (put-there new xs, λ k n. put-others k new xs n)

  pub remove_changes_one : (j : K) (xs : List A) → (at_key key cmp j (without_one key cmp j xs) ≡ None) × ((k : K) → is_eq (cmp k j) ≡ false → at_key key cmp k (without_one key cmp j xs) ≡ at_key key cmp k xs)
  remove_changes_one j xs = (removed-gone j xs, λ k n. removed-others k j xs n)
