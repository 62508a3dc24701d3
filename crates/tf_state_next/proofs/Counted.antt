-- How often the address of each resource is one of some: what one address more changes.
use Rattle.std.proofs.Common.{◌≡◌, ◌<◌, ◌≤◌, ◌+◌, ℕ, zero, suc, Bool, true, false, List, [], ◌∷◌, length, map, set, get_or, take, drop, replicate, Ordering, Less, Equal, Greater, Some, None, filter, refl, sym, ap, ap₂, ◌∙◌, subst, arith}
use Rattle.std.proofs.lemmas.List.{get_or_default, length-map}
use Rattle.std.proofs.lemmas.List.Sums.{count_by-le-length, count_by_more_no, count_by_more_yes}
use Rattle.std.specs.List.{AllByRecursion, find}
use Rattle.std.specs.Ordering.{is_lt, is_eq, is_gt}
use Rattle.tf_config_address.specs.ResourceAddr.{ResourceAddrView, addr_cmp}
use Rattle.tf_config_address.specs.Same.{same_addr}
use Rattle.tf_state_next.proofs.Changing.{found_addr, addrs_apart, addrs_tied}
use Rattle.tf_state_next.proofs.OneByOne.{addr_itself}
use Rattle.tf_state_next.specs.StateDraft.{count_of, counts_at, empty_home}
use Rattle.tf_state_data.specs.Order.{IsAt, IsGapFor}
use Rattle.tf_state_data.specs.Resource.{ResourceView}

-- ---- lists

passes_at : {A : Type 0} (p : A → Bool) (x : A) (xs : List A) (b : Bool) → p x ≡ b → AllByRecursion (λ a. p a ≡ true) (filter p xs) → AllByRecursion (λ a. p a ≡ true) (filter p (x ∷ xs))
passes_at p x xs true e rest = rw e (e, rest)
passes_at p x xs false e rest = rw e rest

-- what is left of a list passes
all_pass : {A : Type 0} (p : A → Bool) (xs : List A) → AllByRecursion (λ a. p a ≡ true) (filter p xs)
all_pass p [] = tt
all_pass p (x ∷ xs) = passes_at p x xs (p x) refl (all_pass p xs)

all_weaker : {A : Type 0} (P Q : A → Type 0) (xs : List A) → ((a : A) → P a → Q a) → AllByRecursion P xs → AllByRecursion Q xs
all_weaker P Q [] f h = tt
all_weaker P Q (x ∷ xs) f h = (f x h.0, all_weaker P Q xs f h.1)

same_map : {A : Type 0} (f g : A → ℕ) (xs : List A) → AllByRecursion (λ a. g a ≡ f a) xs → map g xs ≡ map f xs
same_map f g [] h = refl
same_map f g (x ∷ xs) h = ap₂ (λ n ns. n ∷ ns) h.0 (same_map f g xs h.1)

-- what differs at one place alone
one_differs : {A : Type 0} (f g : A → ℕ) (xs : List A) (k : ℕ) (d : A) → k < length xs → AllByRecursion (λ a. g a ≡ f a) (take k xs) → AllByRecursion (λ a. g a ≡ f a) (drop (suc k) xs)
    → g (get_or xs k d) ≡ f (get_or xs k d) + 1 → map g xs ≡ set (map f xs) k (get_or (map f xs) k 0 + 1)
one_differs f g [] k d below lower upper here = absurd (omega (arith, below))
one_differs f g (x ∷ xs) zero d below lower upper here = ap₂ (λ n ns. n ∷ ns) here (same_map f g xs upper)
one_differs f g (x ∷ xs) (suc k) d below lower upper here = ap₂ (λ n ns. n ∷ ns) lower.0 (one_differs f g xs k d (omega (arith, below)) lower.1 upper here)

none_at : {A : Type 0} (q : A → Bool) (x : A) (xs : List A) (b : Bool) → q x ≡ b → find q (x ∷ xs) ≡ None → (q x ≡ false) × (find q xs ≡ None)
none_at q x xs true is e = let some : find q (x ∷ xs) ≡ Some x = rw is refl in let no : Some x ≡ None = sym some ∙ e in absurd (cc)
none_at q x xs false is e = let rest : find q (x ∷ xs) ≡ find q xs = rw is refl in (is, sym rest ∙ e)

-- where none is found, none passes
none_pass : {A : Type 0} (q : A → Bool) (xs : List A) → find q xs ≡ None → AllByRecursion (λ a. q a ≡ false) xs
none_pass q [] e = tt
none_pass q (x ∷ xs) e = let here = none_at q x xs (q x) refl e in (here.0, none_pass q xs here.1)

-- each number is no greater than what all are no greater than
pub all_at_most : {A : Type 0} (f : A → ℕ) (most : ℕ) (xs : List A) (k : ℕ) → ((a : A) → f a ≤ most) → get_or (map f xs) k 0 ≤ most
all_at_most f most [] k h = omega arith
all_at_most f most (x ∷ xs) zero h = h x
all_at_most f most (x ∷ xs) (suc k) h = all_at_most f most xs k h

-- ---- addresses

not_equal_less : (o : Ordering) → is_lt o ≡ true → is_eq o ≡ false
not_equal_less Less e = refl
not_equal_less Equal e = absurd (cc)
not_equal_less Greater e = absurd (cc)

not_equal_greater : (o : Ordering) → is_gt o ≡ true → is_eq o ≡ false
not_equal_greater Less e = absurd (cc)
not_equal_greater Equal e = absurd (cc)
not_equal_greater Greater e = refl

-- an address in another place of the order is another one
apart : (l : ResourceAddrView) (r : ResourceView) → is_eq (addr_cmp r.addr l) ≡ false → same_addr l r.addr ≡ false
apart l r e = sym (addrs_tied l r.addr) ∙ addrs_apart r.addr l (sym (addrs_tied r.addr l) ∙ e)

module _ (addrs : List ResourceAddrView) (i : ℕ) (l : ResourceAddrView) (within : i < length addrs) (is : get_or addrs i l ≡ l) where
  -- one more of them leaves the count of another address
  count_of_other : (r : ResourceView) → is_eq (addr_cmp r.addr l) ≡ false → count_of (take (i + 1) addrs) r.addr ≡ count_of (take i addrs) r.addr
  count_of_other r e = count_by_more_no (λ k. same_addr k r.addr) addrs i l within (ap (λ k. same_addr k r.addr) is ∙ apart l r e)

  -- and adds one to its own
  count_of_own : (r : ResourceView) → r.addr ≡ l → count_of (take (i + 1) addrs) r.addr ≡ count_of (take i addrs) r.addr + 1
  count_of_own r e =
      count_by_more_yes (λ k. same_addr k r.addr) addrs i l within (ap (λ k. same_addr k r.addr) is ∙ ap (same_addr l) e ∙ addr_itself l)

  -- one more where a resource has the address
  pub one_more : (rs : List ResourceView) (k : ℕ) → IsAt (λ r. r.addr) addr_cmp l rs k → counts_at (take (i + 1) addrs) rs ≡ set (counts_at (take i addrs) rs) k (get_or (counts_at (take i addrs) rs) k 0 + 1)
  one_more rs k at =
      let d = empty_home l in
      let f = λ (r : ResourceView). count_of (take i addrs) r.addr in
      let g = λ (r : ResourceView). count_of (take (i + 1) addrs) r.addr in
      let lower : AllByRecursion (λ r. g r ≡ f r) (take k rs) =
      subst (AllByRecursion (λ r. g r ≡ f r)) (sym at.lower)
      (all_weaker (λ (r : ResourceView). is_lt (addr_cmp r.addr l) ≡ true) (λ r. g r ≡ f r) _ (λ r e. count_of_other r (not_equal_less (addr_cmp r.addr l) e)) (all_pass (λ (r : ResourceView). is_lt (addr_cmp r.addr l)) rs)) in
      let upper : AllByRecursion (λ r. g r ≡ f r) (drop (suc k) rs) =
      subst (AllByRecursion (λ r. g r ≡ f r)) (sym at.upper)
      (all_weaker (λ (r : ResourceView). is_gt (addr_cmp r.addr l) ≡ true) (λ r. g r ≡ f r) _ (λ r e. count_of_other r (not_equal_greater (addr_cmp r.addr l) e)) (all_pass (λ (r : ResourceView). is_gt (addr_cmp r.addr l)) rs)) in
      one_differs f g rs k d at.within lower upper (count_of_own (get_or rs k d) (found_addr l rs (get_or rs k d) (at.found d)))

  -- none where none has it
  pub none_more : (rs : List ResourceView) (k : ℕ) → IsGapFor (λ r. r.addr) addr_cmp l rs k → counts_at (take (i + 1) addrs) rs ≡ counts_at (take i addrs) rs
  none_more rs k gap =
      same_map (λ (r : ResourceView). count_of (take i addrs) r.addr) (λ (r : ResourceView). count_of (take (i + 1) addrs) r.addr) rs
      (all_weaker (λ (r : ResourceView). is_eq (addr_cmp r.addr l) ≡ false) (λ r. count_of (take (i + 1) addrs) r.addr ≡ count_of (take i addrs) r.addr) rs (λ r e. count_of_other r e) (none_pass (λ (r : ResourceView). is_eq (addr_cmp r.addr l)) rs gap.absent))

-- of none, each counts none
pub none_counted : (rs : List ResourceView) → replicate (length rs) 0 ≡ counts_at [] rs
none_counted [] = refl
none_counted (r ∷ rs) = ap (λ ns. 0 ∷ ns) (none_counted rs)

-- no address counts more than there are
pub counted_at_most : (addrs : List ResourceAddrView) (rs : List ResourceView) (k : ℕ) → get_or (counts_at addrs rs) k 0 ≤ length addrs
counted_at_most addrs rs k = all_at_most (λ (r : ResourceView). count_of addrs r.addr) (length addrs) rs k (λ r. count_by-le-length (λ l. same_addr l r.addr) addrs)

-- the count at a place is what stands there
pub at_counted : (addrs : List ResourceAddrView) (rs : List ResourceView) (counts : List ℕ) (k n : ℕ) → counts ≡ counts_at addrs rs → k < length rs → n ≡ get_or counts k n → n ≡ get_or (counts_at addrs rs) k 0
at_counted addrs rs counts k n is within e =
    e ∙ ap (λ ns. get_or ns k n) is ∙ get_or_default (counts_at addrs rs) k n 0 (omega (arith, within, length-map rs (λ (r : ResourceView). count_of addrs r.addr)))
