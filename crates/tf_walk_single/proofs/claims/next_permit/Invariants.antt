-- none of the actions passed may be claimed
use Rattle.std.proofs.Common.{◌≡◌, ◌<◌, ◌≤◌, ℕ, false}
use Rattle.tf_claim.specs.Ledger.{is_claimable}
use Rattle.tf_walk_single.proofs.claims.next_permit.Given as goal

abbrev pub invariant-loop-action : goal.invariant-loop-action
invariant-loop-action l = (l.book ≡ l.fn.book) × ((n : ℕ) → l.start ≤ n → n < l.action → is_claimable l.fn.book n ≡ false)

abbrev pub invariant-loop-action-2 : goal.invariant-loop-action-2
invariant-loop-action-2 l =
    record {
      same : l.book ≡ l.fn.book;
      above : (n : ℕ) → l.start ≤ n → n < l.fn.book.graph.nodes → is_claimable l.fn.book n ≡ false;
      below : (n : ℕ) → n < l.action → is_claimable l.fn.book n ≡ false;
    }
