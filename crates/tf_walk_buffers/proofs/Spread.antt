-- A place is added to the list of each number that passes a test, one number after another.
use Rattle.std.proofs.Common.{◌≡◌, ◌∙◌, ◌≤◌, ◌<◌, ◌+◌, ◌++◌, ◌∷◌, ℕ, Bool, false, cond, List, [], eqb, refl, sym, ap, arith, inl, inr, Some, None}
use Rattle.std.proofs.lemmas.Bool.{cases_eq, cases_lt, eq-eqb}
use Rattle.std.proofs.lemmas.Bool.Decides.{nat_tests}
use Rattle.std.proofs.lemmas.List.{append-nil}
use Rattle.tf_graph.specs.NodeSet.{IsFirstFrom}

module _ (passes : ℕ → Bool) (old now : ℕ → List ℕ) (place from : ℕ)
    (before : (p : ℕ) → p < from → now p ≡ old p ++ cond (passes p) (place ∷ []) [])
    (after : (p : ℕ) → from ≤ p → now p ≡ old p) where
  -- as far as the number that was found, and from there on
  pub spread-more : (more : ℕ → List ℕ) (next : ℕ) → IsFirstFrom passes from (Some next)
      → ((p : ℕ) → more p ≡ cond (eqb next p) (now p ++ place ∷ []) (now p))
      → ((p : ℕ) → p < next + 1 → more p ≡ old p ++ cond (passes p) (place ∷ []) []) × ((p : ℕ) → next + 1 ≤ p → more p ≡ old p)
  spread-more more next first added = (upto, beyond)
    where
      other : (p : ℕ) → (p ≡ next → ⊥) → more p ≡ now p
      other p apart =
          let no : eqb next p ≡ false = grind (arith, nat_tests) in
          added p ∙ ap (λ b. cond b (now p ++ place ∷ []) (now p)) no

      passed : (p : ℕ) → from ≤ p → p < next → old p ≡ old p ++ cond (passes p) (place ∷ []) []
      passed p h k = sym (ap (λ b. old p ++ cond b (place ∷ []) []) (first.2 p h k) ∙ append-nil (old p))

      here : more next ≡ old next ++ cond (passes next) (place ∷ []) []
      here =
          added next ∙ ap (λ b. cond b (now next ++ place ∷ []) (now next)) (eq-eqb next next refl)
          ∙ ap (λ xs. xs ++ place ∷ []) (after next first.0) ∙ sym (ap (λ b. old next ++ cond b (place ∷ []) []) first.1)

      upto : (p : ℕ) → p < next + 1 → more p ≡ old p ++ cond (passes p) (place ∷ []) []
      upto p h = elim (cases_lt p from) [
        | inl early ↦ other p (λ e. omega (arith, e, early, first.0)) ∙ before p early
        | inr late ↦ elim (cases_eq p next) [
          | inl same ↦ rw same here
          | inr apart ↦ other p apart ∙ after p late ∙ passed p late (omega (arith, h, apart))
        ]
      ]

      beyond : (p : ℕ) → next + 1 ≤ p → more p ≡ old p
      beyond p h = other p (λ e. omega (arith, e, h)) ∙ after p (omega (arith, h, first.0))

  -- where none is left, it was added to all
  pub spread-whole : IsFirstFrom passes from None → (p : ℕ) → now p ≡ old p ++ cond (passes p) (place ∷ []) []
  spread-whole none p = elim (cases_lt p from) [
    | inl early ↦ before p early
    | inr late ↦ after p late ∙ sym (ap (λ b. old p ++ cond b (place ∷ []) []) (none p late) ∙ append-nil (old p))
  ]
