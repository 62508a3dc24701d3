-- The steps of a tally in the words of its table.
use Rattle.std.proofs.Common.{◌≡◌, ◌<◌, ◌==◌, ℕ, List, [], ◌∷◌, length, cond, refl, sym, ◌∙◌, arith}
use Rattle.std.specs.List.{sum_by}
use Rattle.std.proofs.lemmas.List.Sums.{sum_by-cons}
use mathlib.Core.Option.{none, some}
use prog.Atomic.{either}
use Rattle.atomic_table.specs.Table.{Me, keeps, step, Allows, Splits, Joins}
use Rattle.tf_tally.specs.declared.holding.Holding.{Holding}
use Rattle.tf_tally.specs.Holdings.{staying, going, merged, added, blank}
use Rattle.tf_tally.specs.Laws.{AllKnow, BalancedAgree}
use Rattle.tf_tally.specs.Plays.{Holds, Adds, Audits}
use Rattle.tf_tally.proofs.Keeping as keeping

module _ {E : Type 0} (whole id : ℕ) where
  pub splits : (v : Holding E) → 1 < v.parts → Splits (Holds whole) id v (staying v) (going v)
  splits v two s kept at = keeping.splits whole s.views kept id v at two

  pub joins : (v : Holding E) → 0 < v.parts → (other : ℕ) (w : Holding E) → Joins (Holds whole) id v other w (merged v w) blank
  joins v more other w s kept at apart there =
      keeping.merges whole s.views kept id v at more other w there

  pub adds : (slots word old new : ℕ) (me : Me E (Holding E)) (x : E) → 0 < me.0.parts
      → Allows (Holds whole) slots id me word (λ n. either (n == old) new n) (Adds (step slots word old new (some x)) me)
  adds slots word old new me x more s kept homes at fits =
      (added x me.0, keeps, tt, keeping.adds whole s.views kept id me.0 at more x, refl)

  pub audits : (slots word : ℕ) (me : Me E (Holding E)) → 0 < me.0.parts
      → Allows (Holds whole) slots id me word (λ n. n) (Audits (step slots word 0 0 none) me)
  audits slots word me more s kept homes at fits = (
    me.0,
    keeps,
    tt,
    keeping.stays whole s.views kept id me.0 at,
    (refl, λ all. keeping.all_balanced whole s.views kept id me.0 at (all ∙ (kept.each id me.0 at).some_part more)),
  )

pub all_know : (E : Type 0) → AllKnow E
all_know E whole views k v kept at all = keeping.knows_all whole views kept k v at all

count_all : {E : Type 0} (xs : List E) → sum_by (λ _. 1) xs ≡ length xs
count_all [] = refl
count_all (x ∷ xs) =
    let r = count_all xs in omega (arith, sum_by-cons (λ _. 1) x xs)

pub balanced_agree : (E : Type 0) → BalancedAgree E
balanced_agree E v b = record {
  in_all = sym (count_all v.reported) ∙ b (λ _. 1) ∙ count_all v.kept;
  passing = λ p. b (λ x. cond (p x) 1 0);
}
