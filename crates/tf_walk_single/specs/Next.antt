-- Which action a walk by one thread claims next.
use Rattle.std.specs.Prelude.{◌≡◌, ◌<◌, ◌≤◌, ℕ, false}
use Rattle.tf_claim.specs.Ledger.{Ledger, is_claimable}

-- An action is the first one from an index on that may be claimed, or, if there is no such action, the first of all.
pub record IsNext (l : Ledger) (from n : ℕ) : Type 0 where
  pub between : (m : ℕ) → from ≤ m → m < n → is_claimable l m ≡ false
  pub beyond : n < from → (m : ℕ) → from ≤ m → m < l.graph.nodes → is_claimable l m ≡ false
  pub before : n < from → (m : ℕ) → m < n → is_claimable l m ≡ false
