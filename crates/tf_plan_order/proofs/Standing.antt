-- What stands at the places of resources: names first, then orphans, each address at one place.
use Rattle.std.proofs.Common.{◌≡◌, ◌∙◌, ◌<◌, ◌≤◌, ◌+◌, ◌-◌, ◌⊎◌, ℕ, zero, suc, Bool, true, false, not, cond, List, [], ◌∷◌, ◌++◌, Option, None, Some, option_map, length, map, filter, Less, refl, sym, ap, subst, arith, inl, inr}
use Rattle.std.specs.List.{AllByRecursion}
use Rattle.std.specs.List.Sorted.{IsStrictlySortedBy}
use Rattle.std.specs.Prelude.{Contains, slice_get}
use Rattle.std.proofs.lemmas.Bool.{both_ways, cases_lt, not-true, not_from_false, or_left, or_right}
use Rattle.std.proofs.lemmas.List.{length-map, length-append}
use Rattle.std.proofs.lemmas.List.Elements.{Contains-append_left, Contains-append_right}
use Rattle.std.proofs.lemmas.List.Folds.{Any-from_list_any}
use Rattle.std.proofs.lemmas.List.Kept.{IsStrictlySortedBy-filter}
use Rattle.std.proofs.lemmas.Option.{same_Some, slice_get-map, slice_get_past}
use Rattle.tf_config_address.proofs.Totals.{addr_total}
use Rattle.tf_config_address.specs.ResourceAddr.{ResourceAddrView, addr_cmp}
use Rattle.tf_config_address.specs.Same.{addr_Decides}
use Rattle.tf_config_data.specs.Names.{NameView}
use Rattle.tf_graph.proofs.Edges.{contains_cases, contains_head, contains_tail}
use Rattle.tf_plan_order.proofs.Naming.{option_suc, to_map}
use Rattle.tf_plan_order.specs.ResourceLaws.{BlocksComeFirst, EachHasAPlace, NumbersAreFew, NumbersAreInOrder, PlacesAreTrue, PlacesDiffer, ResourcesStayApart}
use Rattle.tf_plan_order.specs.ResourceIndex.{ResourceRefView, a_name, an_orphan, address_of, has_block, is_address, is_at, numbered, orphans, place_in}
use Rattle.tf_state_data.specs.Addresses.{AreByAddress, addresses_of}
use Rattle.tf_state_data.specs.Resource.{ResourceView}

-- ---- an address and the test on it

address_from : (addr : ResourceAddrView) (o : Option ResourceAddrView) → is_address addr o ≡ true → o ≡ Some addr
address_from addr None h = absurd (cc)
address_from addr (Some own) h = ap Some ((addr_Decides own addr).0 h)

address-at : (addr : ResourceAddrView) (x : ResourceRefView) → is_at addr x ≡ true → address_of x ≡ Some addr
address-at addr x h = address_from addr (address_of x) h

at-address : (addr : ResourceAddrView) (x : ResourceRefView) → address_of x ≡ Some addr → is_at addr x ≡ true
at-address addr x e = ap (is_address addr) e ∙ (addr_Decides addr addr).1 refl

-- ---- the place of an address

place-true : (all : List ResourceRefView) (addr : ResourceAddrView) (n : ℕ) → place_in all addr ≡ Some n → (x : ResourceRefView) × (slice_get all n ≡ Some x) × (address_of x ≡ Some addr)
place-true [] addr n e = absurd (cc)
place-true (x ∷ all) addr n e = by_test (is_at addr x) refl (λ k h. place-true all addr k h) e
  where
    by_test : (b : Bool) → is_at addr x ≡ b → ((k : ℕ) → place_in all addr ≡ Some k → (y : ResourceRefView) × (slice_get all k ≡ Some y) × (address_of y ≡ Some addr))
        → cond b (Some 0) (option_map suc (place_in all addr)) ≡ Some n → (y : ResourceRefView) × (slice_get (x ∷ all) n ≡ Some y) × (address_of y ≡ Some addr)
    by_test true is again h = let zeroth : n ≡ 0 = cc in (x, ap (slice_get (x ∷ all)) zeroth, address-at addr x is)
    by_test false is again h =
        let next = option_suc (place_in all addr) n h in
        let y = again next.0 next.1 in
        (y.0, ap (slice_get (x ∷ all)) next.2 ∙ y.1, y.2)

place-found : (all : List ResourceRefView) (addr : ResourceAddrView) (x : ResourceRefView) → Contains all x → address_of x ≡ Some addr → (n : ℕ) × (place_in all addr ≡ Some n)
place-found [] addr x c e = absurd (omega (arith, c.1))
place-found (z ∷ all) addr x c e = by_test (is_at addr z) refl (contains_cases x z all c) (λ d. place-found all addr x d e)
  where
    by_test : (b : Bool) → is_at addr z ≡ b → (z ≡ x) ⊎ Contains all x → (Contains all x → (n : ℕ) × (place_in all addr ≡ Some n))
        → (n : ℕ) × (cond b (Some 0) (option_map suc (place_in all addr)) ≡ Some n)
    by_test true is d again = (0, refl)
    by_test false is (inl here) again = absurd (both_ways (is_at addr z) is (at-address addr z (ap address_of here ∙ e)))
    by_test false is (inr rest) again = let later = again rest in (suc later.0, ap (option_map suc) later.1)

pub places-true : PlacesAreTrue
places-true all addr n e = place-true all addr n e

pub places-differ : PlacesDiffer
places-differ all a b n e f =
    let x = place-true all a n e in
    let y = place-true all b n f in
    same_Some a b (sym x.2 ∙ ap address_of (same_Some x.0 y.0 (sym x.1 ∙ y.1)) ∙ y.2)

-- ---- names first, then orphans

get_front : {A : Type 0} (xs ys : List A) (i : ℕ) → i < length xs → slice_get (xs ++ ys) i ≡ slice_get xs i
get_front [] ys i h = absurd (omega (arith, h))
get_front (x ∷ xs) ys zero h = refl
get_front (x ∷ xs) ys (suc i) h = get_front xs ys i (omega (arith, h))

get_back : {A : Type 0} (xs ys : List A) (k i : ℕ) → k ≡ length xs + i → slice_get (xs ++ ys) k ≡ slice_get ys i
get_back [] ys k i h = let same : k ≡ i = omega (arith, h) in ap (slice_get ys) same
get_back (x ∷ xs) ys zero i h = absurd (omega (arith, h))
get_back (x ∷ xs) ys (suc k) i h = get_back xs ys k i (omega (arith, h))

to_filter : {A : Type 0} (test : A → Bool) (xs : List A) (x : A) → Contains xs x → test x ≡ true → Contains (filter test xs) x
to_filter test [] x c e = absurd (omega (arith, c.1))
to_filter test (z ∷ xs) x c e = by_test (test z) refl (contains_cases x z xs c) (λ d. to_filter test xs x d e)
  where
    by_test : (b : Bool) → test z ≡ b → (z ≡ x) ⊎ Contains xs x → (Contains xs x → Contains (filter test xs) x) → Contains (cond b (z ∷ filter test xs) (filter test xs)) x
    by_test true is (inl here) again = contains_head x z (filter test xs) here
    by_test true is (inr rest) again = contains_tail x z (filter test xs) (again rest)
    by_test false is (inl here) again = absurd (both_ways (test z) is (ap test here ∙ e))
    by_test false is (inr rest) again = again rest

passes : {A : Type 0} (test : A → Bool) (xs : List A) (i : ℕ) (x : A) → slice_get (filter test xs) i ≡ Some x → test x ≡ true
passes test [] i x e = absurd (cc)
passes test (z ∷ xs) i x e = by_test (test z) refl i (λ k h. passes test xs k x h) e
  where
    by_test : (b : Bool) → test z ≡ b → (k : ℕ) → ((j : ℕ) → slice_get (filter test xs) j ≡ Some x → test x ≡ true) → slice_get (cond b (z ∷ filter test xs) (filter test xs)) k ≡ Some x
        → test x ≡ true
    by_test true is zero again h = ap test (sym (same_Some z x h)) ∙ is
    by_test true is (suc k) again h = again k h
    by_test false is k again h = again k h

shorter : {A : Type 0} (test : A → Bool) (xs : List A) → length (filter test xs) ≤ length xs
shorter test [] = omega arith
shorter test (x ∷ xs) = by_test (test x) (shorter test xs)
  where
    by_test : (b : Bool) → length (filter test xs) ≤ length xs → length (cond b (x ∷ filter test xs) (filter test xs)) ≤ suc (length xs)
    by_test true h = omega (arith, h)
    by_test false h = omega (arith, h)

-- a resource that stands among names is a block
block-at : (names : List NameView) (n : ℕ) (x : ResourceRefView) (addr : ResourceAddrView) → slice_get (map a_name names) n ≡ Some x → address_of x ≡ Some addr → has_block names addr ≡ true
block-at [] n x addr e a = absurd (cc)
block-at (m ∷ names) zero x addr e a = or_left _ _ (at-address addr (a_name m) (ap address_of (same_Some (a_name m) x e) ∙ a))
block-at (m ∷ names) (suc n) x addr e a = or_right _ _ (block-at names n x addr e a)

orphan-at : (os : List ResourceView) (i : ℕ) (x : ResourceRefView) → slice_get (map an_orphan os) i ≡ Some x → (r : ResourceView) × (slice_get os i ≡ Some r) × (x ≡ an_orphan r)
orphan-at os i x e = by_option (slice_get os i) (sym (slice_get-map an_orphan os i) ∙ e)
  where
    by_option : (o : Option ResourceView) → option_map an_orphan o ≡ Some x → (r : ResourceView) × (o ≡ Some r) × (x ≡ an_orphan r)
    by_option None h = absurd (cc)
    by_option (Some r) h = (r, refl, sym (same_Some (an_orphan r) x h))

module _ (names : List NameView) (resources : List ResourceView) where
  abbrev left : List ResourceView
  left = orphans names resources

  has_no_block : (i : ℕ) (r : ResourceView) → slice_get left i ≡ Some r → has_block names r.addr ≡ false
  has_no_block i r e = not-true (has_block names r.addr) (passes (λ (x : ResourceView). not (has_block names x.addr)) resources i r e)

  in_front : (n : ℕ) → n < length names → slice_get (numbered names resources) n ≡ slice_get (map a_name names) n
  in_front n h = get_front (map a_name names) (map an_orphan left) n (omega (arith, h, length-map names a_name))

  behind : (k i : ℕ) → k ≡ length names + i → slice_get (numbered names resources) k ≡ slice_get (map an_orphan left) i
  behind k i h = get_back (map a_name names) (map an_orphan left) k i (omega (arith, h, length-map names a_name))

  long : length (numbered names resources) ≡ length names + length left
  long =
      let all : length (numbered names resources) ≡ length (map a_name names) + length (map an_orphan left) = length-append (map a_name names) (map an_orphan left) in
      omega (arith, all, length-map names a_name, length-map left an_orphan)

  -- what stands behind the names is an orphan, without a block
  orphan-behind : (k : ℕ) (x : ResourceRefView) (addr : ResourceAddrView) → length names ≤ k → slice_get (numbered names resources) k ≡ Some x → address_of x ≡ Some addr
      → (r : ResourceView) × (slice_get left (k - length names) ≡ Some r) × (r.addr ≡ addr)
  orphan-behind k x addr h e a =
      let o = orphan-at left (k - length names) x (sym (behind k (k - length names) (omega (arith, h))) ∙ e) in
      (o.0, o.1, same_Some o.0.addr addr (ap address_of (sym o.2) ∙ a))

  no_block-behind : (k : ℕ) (x : ResourceRefView) (addr : ResourceAddrView) → length names ≤ k → slice_get (numbered names resources) k ≡ Some x → address_of x ≡ Some addr
      → has_block names addr ≡ false
  no_block-behind k x addr h e a =
      let o = orphan-behind k x addr h e a in
      ap (has_block names) (sym o.2) ∙ has_no_block (k - length names) o.0 o.1

  block-in_front : (k : ℕ) (x : ResourceRefView) (addr : ResourceAddrView) → k < length names → slice_get (numbered names resources) k ≡ Some x → address_of x ≡ Some addr
      → has_block names addr ≡ true
  block-in_front k x addr h e a = block-at names k x addr (sym (in_front k h) ∙ e) a

  place-among : (r : ResourceView) → Contains resources r → (b : Bool) → has_block names r.addr ≡ b → (n : ℕ) × (place_in (numbered names resources) r.addr ≡ Some n)
  place-among r c true is =
      let m = Any-from_list_any (λ (x : NameView). is_at r.addr (a_name x)) names is in
      place-found (numbered names resources) r.addr (a_name m.1) (Contains-append_left (map a_name names) (map an_orphan left) (a_name m.1) (to_map a_name names m.1 (m.0, m.2, m.3)))
      (address-at r.addr (a_name m.1) m.4)
  place-among r c false is =
      let own : Contains left r = to_filter (λ (x : ResourceView). not (has_block names x.addr)) resources r c (not_from_false (has_block names r.addr) is) in
      place-found (numbered names resources) r.addr (an_orphan r) (Contains-append_right (map a_name names) (map an_orphan left) (an_orphan r) (to_map an_orphan left r own)) refl

pub each-placed : EachHasAPlace
each-placed names resources r c = place-among names resources r c (has_block names r.addr) refl

pub numbers-in_order : NumbersAreInOrder
numbers-in_order names resources = record {
  first_names = λ n h. in_front names resources n h ∙ slice_get-map a_name names n;
  then_orphans = λ n. behind names resources (length names + n) n refl ∙ slice_get-map an_orphan (orphans names resources) n;
  then_none = λ n h. slice_get_past (numbered names resources) n (omega (arith, h, long names resources));
}

pub numbers-few : NumbersAreFew
numbers-few names resources = omega (arith, long names resources, shorter (λ (r : ResourceView). not (has_block names r.addr)) resources)

pub blocks-first : BlocksComeFirst
blocks-first names resources addr n e =
    let x = place-true (numbered names resources) addr n e in (
      λ h. block-in_front names resources n x.0 addr h x.1 x.2,
      λ block. elim (cases_lt n (length names)) [
        | inl here ↦ here
        | inr back ↦ absurd (both_ways (has_block names addr) (no_block-behind names resources n x.0 addr back x.1 x.2) block)
      ],
    )

-- ---- each address once

less_itself : (addr : ResourceAddrView) → addr_cmp addr addr ≡ Less → ⊥
less_itself addr h = let turned = addr_total.antisymm addr addr in absurd (cc)

above_at : (addr : ResourceAddrView) (addrs : List ResourceAddrView) (j : ℕ) (other : ResourceAddrView) → AllByRecursion (λ y. addr_cmp addr y ≡ Less) addrs → slice_get addrs j ≡ Some other
    → addr_cmp addr other ≡ Less
above_at addr [] j other h e = absurd (cc)
above_at addr (x ∷ addrs) zero other h e = subst (λ y. addr_cmp addr y ≡ Less) (same_Some x other e) h.0
above_at addr (x ∷ addrs) (suc j) other h e = above_at addr addrs j other h.1 e

sorted-apart : (addrs : List ResourceAddrView) → IsStrictlySortedBy addr_cmp addrs → (i j : ℕ) (addr : ResourceAddrView) → slice_get addrs i ≡ Some addr → slice_get addrs j ≡ Some addr → i ≡ j
unfolding IsStrictlySortedBy
sorted-apart [] s i j addr e f = absurd (cc)
sorted-apart (x ∷ addrs) s zero zero addr e f = refl
sorted-apart (x ∷ addrs) s zero (suc j) addr e f =
    absurd (less_itself addr (subst (λ y. addr_cmp y addr ≡ Less) (same_Some x addr e) (above_at x addrs j addr s.0 f)))
sorted-apart (x ∷ addrs) s (suc i) zero addr e f =
    absurd (less_itself addr (subst (λ y. addr_cmp y addr ≡ Less) (same_Some x addr f) (above_at x addrs i addr s.0 e)))
sorted-apart (x ∷ addrs) s (suc i) (suc j) addr e f = ap suc (sorted-apart addrs s.1 i j addr e f)

addresses-filter : (test : ResourceAddrView → Bool) (rs : List ResourceView) → addresses_of (filter (λ r. test r.addr) rs) ≡ filter test (addresses_of rs)
addresses-filter test [] = refl
addresses-filter test (r ∷ rs) = by_test (test r.addr) (addresses-filter test rs)
  where
    by_test : (b : Bool) → addresses_of (filter (λ x. test x.addr) rs) ≡ filter test (addresses_of rs)
        → addresses_of (cond b (r ∷ filter (λ x. test x.addr) rs) (filter (λ x. test x.addr) rs)) ≡ cond b (r.addr ∷ filter test (addresses_of rs)) (filter test (addresses_of rs))
    by_test true h = ap (λ ls. r.addr ∷ ls) h
    by_test false h = h

orphans-sorted : (names : List NameView) (resources : List ResourceView) → AreByAddress resources → AreByAddress (orphans names resources)
orphans-sorted names resources s =
    subst (IsStrictlySortedBy addr_cmp) (sym (addresses-filter (λ addr. not (has_block names addr)) resources))
    (IsStrictlySortedBy-filter addr_cmp (λ addr. not (has_block names addr)) (addresses_of resources) s)

address-in : (rs : List ResourceView) (i : ℕ) (r : ResourceView) (addr : ResourceAddrView) → slice_get rs i ≡ Some r → r.addr ≡ addr → slice_get (addresses_of rs) i ≡ Some addr
address-in rs i r addr e is = slice_get-map (λ x. x.addr) rs i ∙ ap (option_map (λ x. x.addr)) e ∙ ap Some is

pub resources-apart : ResourcesStayApart
resources-apart names resources apart sorted i j x y addr ei ej ai aj = elim (cases_lt i (length names)) [
  | inl fi ↦ elim (cases_lt j (length names)) [
    | inl fj ↦ apart i j x y addr (sym (in_front names resources i fi) ∙ ei) (sym (in_front names resources j fj) ∙ ej) ai aj
    | inr bj ↦ absurd (both_ways (has_block names addr) (no_block-behind names resources j y addr bj ej aj) (block-in_front names resources i x addr fi ei ai))
  ]
  | inr bi ↦ elim (cases_lt j (length names)) [
    | inl fj ↦ absurd (both_ways (has_block names addr) (no_block-behind names resources i x addr bi ei ai) (block-in_front names resources j y addr fj ej aj))
    | inr bj ↦
        let o = orphan-behind names resources i x addr bi ei ai in
        let p = orphan-behind names resources j y addr bj ej aj in
        let own : List ResourceView = orphans names resources in
        let same : i - length names ≡ j - length names =
        sorted-apart (addresses_of own) (orphans-sorted names resources sorted) (i - length names) (j - length names) addr
        (address-in own (i - length names) o.0 addr o.1 o.2) (address-in own (j - length names) p.0 addr p.1 p.2) in
        omega (arith, same, bi, bj)
  ]
]
