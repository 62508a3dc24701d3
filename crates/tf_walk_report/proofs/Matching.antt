-- How many numbers stand in a list of different numbers.
use Rattle.std.proofs.Common.{◌≡◌, ◌≢◌, ◌<◌, ◌≤◌, ℕ, zero, suc, Bool, true, false, List, [], ◌∷◌, length, refl, subst, arith, inl, inr, cond}
use Rattle.std.specs.Prelude.{nat_eq, slice_index}
use Rattle.std.specs.List.{list_any}
use Rattle.std.proofs.lemmas.Bool.{cases_eq}
use Rattle.std.proofs.lemmas.Bool.Decides.{nat_tests}
use Rattle.tf_claim.specs.Claims.{how_many}
use Rattle.tf_claim.proofs.Counting.{how_many-one_less, how_many-none}

at_most : (a b : Bool) → (a ≡ true → b ≡ true) → cond a 1 0 ≤ cond b 1 0
at_most false true h = omega arith
at_most false false h = omega arith
at_most true b h = rw (h refl) (omega arith)

-- where whatever passes one test passes another, no fewer pass the other
how_many-le : (q p : ℕ → Bool) (n : ℕ) → ((i : ℕ) → q i ≡ true → p i ≡ true) → how_many q n ≤ how_many p n
how_many-le q p zero less = omega arith
how_many-le q p (suc n) less =
    let r = how_many-le q p n less in
    let here = at_most (q n) (p n) (less n) in omega arith

-- and more, where some number passes the other alone
pub how_many-lt : (q p : ℕ → Bool) (n e : ℕ) → ((i : ℕ) → q i ≡ true → p i ≡ true) → e < n → p e ≡ true → q e ≡ false → how_many q n < how_many p n
how_many-lt q p zero e less lt on off = absurd (omega arith)
how_many-lt q p (suc n) e less lt on off =
    elim (cases_eq e n) [
      | inl is ↦
          let r = how_many-le q p n less in
          rw (subst (λ i. p i ≡ true) is on, subst (λ i. q i ≡ false) is off) (omega arith)
      | inr ne ↦
          let r = how_many-lt q p n e less (omega arith) on off in
          let here = at_most (q n) (p n) (less n) in omega arith
    ]

-- a number stands in a list
abbrev pub stands : List ℕ → ℕ → Bool
stands xs n = list_any (nat_eq n) xs

pub nat_eq-same : (n : ℕ) → nat_eq n n ≡ true
nat_eq-same n = grind (arith, nat_tests)

pub nat_eq-other : (n m : ℕ) → n ≢ m → nat_eq n m ≡ false
nat_eq-other n m ne = grind (arith, nat_tests)

stands-nowhere : (x : ℕ) (xs : List ℕ) → ((j : ℕ) → j < length xs → x ≢ slice_index xs j) → stands xs x ≡ false
stands-nowhere x [] ne = refl
stands-nowhere x (y ∷ ys) ne =
    let here = nat_eq-other x y (ne 0 (omega arith)) in
    let r = stands-nowhere x ys (λ j lt. ne (suc j) (omega arith)) in rw (here, r) refl

-- so many numbers below a bound stand in a list of different numbers below it as it is long
pub how_many-stand : (xs : List ℕ) (n : ℕ) → ((i j : ℕ) → i < j → j < length xs → slice_index xs i ≢ slice_index xs j) → ((i : ℕ) → i < length xs → slice_index xs i < n)
    → how_many (stands xs) n ≡ length xs
how_many-stand [] n once below = how_many-none (stands []) n (λ i lt. refl)
how_many-stand (x ∷ xs) n once below =
    let new : stands xs x ≡ false = stands-nowhere x xs (λ j lt. once 0 (suc j) (omega arith) (omega arith)) in
    let same : stands (x ∷ xs) x ≡ true = rw (nat_eq-same x) refl in
    let rest = how_many-stand xs n (λ i j lt inside. once (suc i) (suc j) (omega arith) (omega arith)) (λ i lt. below (suc i) (omega arith)) in
    let more = how_many-one_less (stands (x ∷ xs)) (stands xs) n x (below 0 (omega arith)) same new (λ i ne. rw (nat_eq-other i x ne) refl) in
    omega arith
