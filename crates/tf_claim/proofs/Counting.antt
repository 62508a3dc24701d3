-- Counting in lists, over all seats, and below a bound.
use Rattle.std.proofs.Common.{◌≡◌, ◌≢◌, ◌<◌, ◌≤◌, ◌+◌, ◌==◌, ℕ, zero, suc, Bool, true, false, List, [], ◌∷◌, ◌++◌, length, set, refl, sym, ap, ◌∙◌, arith, inl, inr, eq-eqb, ne_eqb, if◌then◌else◌}
use Rattle.std.proofs.lemmas.Bool.{cases_eq, cases_lt, true≢false}
use mathlib.Core.Option.{some, some-injective, some-ne-none}
use lib.ListN.{get_elem?}
use Rattle.tf_claim.specs.declared.seat.View.{View}
use Rattle.tf_claim.specs.Views.{times}
use Rattle.tf_claim.specs.Claims.{total, how_many}

pub times-cons_same : (n : ℕ) (xs : List ℕ) → times n (n ∷ xs) ≡ suc (times n xs)
times-cons_same n xs = rw (eq-eqb n n refl) (omega arith)

pub times-cons_other : (n x : ℕ) (xs : List ℕ) → x ≢ n → times n (x ∷ xs) ≡ times n xs
times-cons_other n x xs ne = rw (ne_eqb x n ne) (omega arith)

pub times-append : (n : ℕ) (xs ys : List ℕ) → times n (xs ++ ys) ≡ times n xs + times n ys
times-append n [] ys = omega arith
times-append n (x ∷ xs) ys =
    let r = times-append n xs ys in omega arith

-- over all seats, after the view of one has changed
pub total-set : (f : View → ℕ) (views : List View) (k : ℕ) (v w : View) → get_elem? views k ≡ some v → total f (set views k w) + f v ≡ total f views + f w
total-set f [] k v w at = absurd (some-ne-none v (sym at))
total-set f (x ∷ xs) zero v w at =
    let is : f x ≡ f v = ap f (some-injective x v at) in omega arith
total-set f (x ∷ xs) (suc k) v w at = let r = total-set f xs k v w at in omega arith

-- and with one seat more
pub total-snoc : (f : View → ℕ) (views : List View) (w : View) → total f (views ++ w ∷ []) ≡ total f views + f w
total-snoc f [] w = omega arith
total-snoc f (x ∷ xs) w = let r = total-snoc f xs w in omega arith

-- one seat has no more than all
pub member-le-total : (f : View → ℕ) (views : List View) (k : ℕ) (v : View) → get_elem? views k ≡ some v → f v ≤ total f views
member-le-total f [] k v at = absurd (some-ne-none v (sym at))
member-le-total f (x ∷ xs) zero v at =
    let is : f x ≡ f v = ap f (some-injective x v at) in omega arith
member-le-total f (x ∷ xs) (suc k) v at = let r = member-le-total f xs k v at in omega arith

-- what is less for each seat is less for all
pub total-le : (f h : View → ℕ) (views : List View) → ((k : ℕ) (v : View) → get_elem? views k ≡ some v → f v ≤ h v) → total f views ≤ total h views
total-le f h [] le = omega arith
total-le f h (x ∷ xs) le =
    let first : f x ≤ h x = le 0 x refl in
    let r = total-le f h xs (λ k v at. le (suc k) v at) in omega arith

-- what passes the same tests is as many
pub how_many-same : (p q : ℕ → Bool) (n : ℕ) → ((i : ℕ) → i < n → p i ≡ q i) → how_many p n ≡ how_many q n
how_many-same p q zero same = refl
how_many-same p q (suc n) same =
    let here = same n (omega arith) in
    let r = how_many-same p q n (λ i lt. same i (omega arith)) in rw (here, r) refl

-- one number that passes no longer is one less
pub how_many-one_less : (p q : ℕ → Bool) (n e : ℕ) → e < n → p e ≡ true → q e ≡ false → ((i : ℕ) → i ≢ e → p i ≡ q i) → how_many p n ≡ suc (how_many q n)
how_many-one_less p q zero e lt on off same = absurd (omega arith)
how_many-one_less p q (suc n) e lt on off same =
    elim (cases_eq e n) [
      | inl is ↦
          let on' : p n ≡ true = rw (← is) on in
          let off' : q n ≡ false = rw (← is) off in
          let r = how_many-same p q n (λ i less. same i (omega arith)) in
          rw (on', off', r) (omega arith)
      | inr ne ↦
          let here : p n ≡ q n = same n (λ h. ne (sym h)) in
          let r = how_many-one_less p q n e (omega arith) on off same in
          rw (here, r) (omega arith)
    ]

pub how_many-none : (p : ℕ → Bool) (n : ℕ) → ((i : ℕ) → i < n → p i ≡ false) → how_many p n ≡ 0
how_many-none p zero none_pass = refl
how_many-none p (suc n) none_pass =
    let here = none_pass n (omega arith) in
    let r = how_many-none p n (λ i lt. none_pass i (omega arith)) in rw (here, r) refl

-- where none passes, each fails
pub fails : (p : ℕ → Bool) (n i : ℕ) → how_many p n ≡ 0 → i < n → p i ≡ false
fails p zero i none_pass lt = absurd (omega arith)
fails p (suc n) i none_pass lt =
    elim (cases_eq i n) [
      | inl is ↦ rw is (not_one (p n) (if p n then 1 else 0) refl (omega arith))
      | inr ne ↦ fails p n i (omega arith) (omega arith)
    ]
  where
    not_one : (b : Bool) (k : ℕ) → k ≡ (if b then 1 else 0) → k ≡ 0 → b ≡ false
    not_one true k is none_there = absurd (omega arith)
    not_one false k is none_there = refl

without : (b : Bool) (m : ℕ) → b ≡ false → 0 < (if b then 1 else 0) + m → 0 < m
without true m is more = absurd (true≢false is)
without false m is more = omega arith

-- where not none passes, one does
pub passes : (p : ℕ → Bool) (n : ℕ) → 0 < how_many p n → (i : ℕ) × (i < n) × (p i ≡ true)
passes p zero some_pass = absurd (omega arith)
passes p (suc n) some_pass = last (λ fewer. passes p n fewer) (p n) refl
  where
    last : (0 < how_many p n → (i : ℕ) × (i < n) × (p i ≡ true)) → (b : Bool) → p n ≡ b → (i : ℕ) × (i < suc n) × (p i ≡ true)
    last below true is = (n, omega arith, is)
    last below false is =
        let r = below (without (p n) (how_many p n) is some_pass) in
        (r.0, (let lt = r.1 in omega arith), r.2)

-- two seats have no more than all
pub two-le-total : (f : View → ℕ) (views : List View) (j k : ℕ) (v w : View) → j ≢ k → get_elem? views j ≡ some v → get_elem? views k ≡ some w → f v + f w ≤ total f views
two-le-total f [] j k v w apart at there = absurd (some-ne-none v (sym at))
two-le-total f (x ∷ xs) zero zero v w apart at there = absurd (apart refl)
two-le-total f (x ∷ xs) zero (suc k) v w apart at there =
    let is : f x ≡ f v = ap f (some-injective x v at) in
    let m = member-le-total f xs k w there in omega arith
two-le-total f (x ∷ xs) (suc j) zero v w apart at there =
    let is : f x ≡ f w = ap f (some-injective x w there) in
    let m = member-le-total f xs j v at in omega arith
two-le-total f (x ∷ xs) (suc j) (suc k) v w apart at there =
    let r = two-le-total f xs j k v w (λ e. apart (ap suc e)) at there in omega arith

-- where each has none, all have none
pub total-none : (f : View → ℕ) (views : List View) → ((k : ℕ) (v : View) → get_elem? views k ≡ some v → f v ≡ 0) → total f views ≡ 0
total-none f [] none = refl
total-none f (x ∷ xs) none =
    let first = none 0 x refl in
    let r = total-none f xs (λ k v at. none (suc k) v at) in omega arith

-- where all have some, one has
pub some-has : (f : View → ℕ) (views : List View) → 0 < total f views → (k : ℕ) × (v : View) × (get_elem? views k ≡ some v) × (0 < f v)
some-has f [] some_there = absurd (omega arith)
some-has f (x ∷ xs) some_there =
    elim (cases_eq (f x) 0) [
      | inl is ↦ (let r = some-has f xs (omega arith) in (suc r.0, r.1, r.2, r.3))
      | inr ne ↦ (0, x, refl, omega arith)
    ]

-- what is no more for each seat, and less for one, is less for all
pub total-lt : (f h : View → ℕ) (views : List View) (k : ℕ) (v : View) → ((j : ℕ) (u : View) → get_elem? views j ≡ some u → f u ≤ h u) → get_elem? views k ≡ some v → f v < h v → total f views < total h views
total-lt f h [] k v le at less = absurd (some-ne-none v (sym at))
total-lt f h (x ∷ xs) zero v le at less =
    let is : x ≡ v = some-injective x v at in
    let fs : f x ≡ f v = ap f is in
    let hs : h x ≡ h v = ap h is in
    let r = total-le f h xs (λ j u there. le (suc j) u there) in omega arith
total-lt f h (x ∷ xs) (suc k) v le at less =
    let first : f x ≤ h x = le 0 x refl in
    let r = total-lt f h xs k v (λ j u there. le (suc j) u there) at less in omega arith

-- below a bound, the sum of a function
abbrev sum_below : (ℕ → ℕ) → ℕ → ℕ
sum_below f zero = 0
sum_below f (suc n) = f n + sum_below f n

sum_below-add : (f h : ℕ → ℕ) (n : ℕ) → sum_below (λ i. f i + h i) n ≡ sum_below f n + sum_below h n
sum_below-add f h zero = refl
sum_below-add f h (suc n) = let r = sum_below-add f h n in omega arith

sum_below-zero : (x n : ℕ) → n ≤ x → sum_below (λ i. if x == i then 1 else 0) n ≡ 0
sum_below-zero x zero le = refl
sum_below-zero x (suc n) le =
    let t = ne_eqb x n (λ e. omega arith) in
    let r = sum_below-zero x n (omega arith) in rw (t, r) refl

sum_below-one : (x n : ℕ) → x < n → sum_below (λ i. if x == i then 1 else 0) n ≡ 1
sum_below-one x zero lt = absurd (omega arith)
sum_below-one x (suc n) lt =
    elim (cases_eq x n) [
      | inl is ↦
          let t = eq-eqb x n is in
          let r = sum_below-zero x n (omega arith) in rw (t, r) refl
      | inr ne ↦
          let t = ne_eqb x n ne in
          let r = sum_below-one x n (omega arith) in rw (t, r) refl
    ]

none_below : (n : ℕ) → sum_below (λ i. 0) n ≡ 0
none_below zero = refl
none_below (suc n) = let r = none_below n in omega arith

-- a list of numbers below a bound is as long as they stand in it, added up
pub length-sum : (xs : List ℕ) (n : ℕ) → ((i : ℕ) → n ≤ i → times i xs ≡ 0) → length xs ≡ sum_below (λ i. times i xs) n
length-sum [] n past = sym (none_below n)
length-sum (x ∷ xs) n past =
    let inside : x < n = in_bound in
    let r = length-sum xs n (λ i le. (let p = past i le in omega arith)) in
    let a = sum_below-add (λ i. if x == i then 1 else 0) (λ i. times i xs) n in
    let o = sum_below-one x n inside in omega arith
  where
    in_bound : x < n
    in_bound = elim (cases_lt x n) [
      | inl lt ↦ lt
      | inr le ↦ (let p = past x le in let t = times-cons_same x xs in absurd (omega arith))
    ]

sum_below-le : (f : ℕ → ℕ) (n : ℕ) → ((i : ℕ) → f i ≤ 1) → sum_below f n ≤ n
sum_below-le f zero le = omega arith
sum_below-le f (suc n) le = let a = le n in let r = sum_below-le f n le in omega arith

-- each number stands once at most in a list of numbers below a bound, so it is no longer than that
pub length-le : (xs : List ℕ) (n : ℕ) → ((i : ℕ) → n ≤ i → times i xs ≡ 0) → ((i : ℕ) → times i xs ≤ 1) → length xs ≤ n
length-le xs n past once =
    let s = length-sum xs n past in
    let l = sum_below-le (λ i. times i xs) n once in omega arith

sum_below-full : (f : ℕ → ℕ) (n i : ℕ) → ((j : ℕ) → f j ≤ 1) → sum_below f n ≡ n → i < n → f i ≡ 1
sum_below-full f zero i le full lt = absurd (omega arith)
sum_below-full f (suc n) i le full lt =
    let a = le n in
    let b = sum_below-le f n le in
    elim (cases_eq i n) [
      | inl is ↦ rw is (omega arith)
      | inr ne ↦ sum_below-full f n i le (omega arith) (omega arith)
    ]

sum_below-ones : (f : ℕ → ℕ) (n : ℕ) → ((i : ℕ) → i < n → f i ≡ 1) → sum_below f n ≡ n
sum_below-ones f zero ones = refl
sum_below-ones f (suc n) ones =
    let a = ones n (omega arith) in
    let r = sum_below-ones f n (λ i lt. ones i (omega arith)) in omega arith

-- it is just as long exactly where each of them stands in it once
pub each-once : (xs : List ℕ) (n : ℕ) → ((i : ℕ) → n ≤ i → times i xs ≡ 0) → ((i : ℕ) → times i xs ≤ 1) → length xs ≡ n → (i : ℕ) → i < n → times i xs ≡ 1
each-once xs n past once is i lt =
    sum_below-full (λ j. times j xs) n i once (sym (length-sum xs n past) ∙ is) lt

pub length-once : (xs : List ℕ) (n : ℕ) → ((i : ℕ) → n ≤ i → times i xs ≡ 0) → ((i : ℕ) → i < n → times i xs ≡ 1) → length xs ≡ n
length-once xs n past ones =
    length-sum xs n past ∙ sum_below-ones (λ i. times i xs) n ones
