-- What holds of each of the first places of a list holds of one more.
use Rattle.std.proofs.Common.{◌≡◌, ◌<◌, ◌≤◌, ◌+◌, ◌⊎◌, ℕ, List, length, get_or, inl, inr, arith, sym, subst}
use Rattle.std.proofs.Math.Nat.{eq-or-lt_of_le}
use Rattle.std.proofs.lemmas.List.{get_or_default}

pub one-more : (P : ℕ → Type 0) (xs : List ℕ) (k : ℕ) → ((i : ℕ) → i < k → P (get_or xs i 0)) → P (get_or xs k 0) → (i : ℕ) → i < k + 1 → P (get_or xs i 0)
one-more P xs k so here i below = at (eq-or-lt_of_le (omega arith))
  where
    at : (i ≡ k) ⊎ (i < k) → P (get_or xs i 0)
    at (inl e) = subst (λ (n : ℕ). P (get_or xs n 0)) (sym e) here
    at (inr less) = so i less

-- and what holds of as many as there are holds of all, whatever stands behind the last
pub all-passed : (P : ℕ → Type 0) (xs : List ℕ) (k : ℕ) → ((i : ℕ) → i < k → P (get_or xs i 0)) → length xs ≤ k → (i d : ℕ) → i < length xs → P (get_or xs i d)
all-passed P xs k so whole i d below = subst P (get_or_default xs i 0 d below) (so i (omega arith))
