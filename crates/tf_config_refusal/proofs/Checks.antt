-- Lists of checks, one after another.
use Rattle.std.proofs.Common.{◌≡◌, ℕ, List, [], ◌∷◌, ◌++◌, inl, inr, ◌∙◌, sym}
use Rattle.tf_config_refusal.specs.Check.{Check, AllMet, IsFirst}

module _ {D : Type 0} (IsMet : D → Type 0) where
  pub AllMet-append : (xs ys : List (Check D)) → AllMet IsMet xs → AllMet IsMet ys → AllMet IsMet (xs ++ ys)
  AllMet-append [] ys h k = k
  AllMet-append (x ∷ xs) ys h k = (h.0, AllMet-append xs ys h.1 k)

  pub AllMet-left : (xs ys : List (Check D)) → AllMet IsMet (xs ++ ys) → AllMet IsMet xs
  AllMet-left [] ys h = tt
  AllMet-left (x ∷ xs) ys h = (h.0, AllMet-left xs ys h.1)

  pub AllMet-right : (xs ys : List (Check D)) → AllMet IsMet (xs ++ ys) → AllMet IsMet ys
  AllMet-right [] ys h = h
  AllMet-right (x ∷ xs) ys h = AllMet-right xs ys h.1

module _ {D K : Type 0} (IsMet : D → Type 0) (Fails : D → K → Type 0) (place : List ℕ) (way : K) where
  -- a first fault stays the first, whatever is checked later
  pub IsFirst-left : (xs ys : List (Check D)) → IsFirst IsMet Fails place way xs → IsFirst IsMet Fails place way (xs ++ ys)
  IsFirst-left [] ys h = absurd h
  IsFirst-left (x ∷ xs) ys h = elim h [ inl here ↦ inl here | inr later ↦ inr (later.0, IsFirst-left xs ys later.1) ]

  -- a first fault stays the first behind checks that are met
  pub IsFirst-right : (xs ys : List (Check D)) → AllMet IsMet xs → IsFirst IsMet Fails place way ys → IsFirst IsMet Fails place way (xs ++ ys)
  IsFirst-right [] ys met h = h
  IsFirst-right (x ∷ xs) ys met h = inr (met.0, IsFirst-right xs ys met.1 h)

module _ {D K : Type 0} (IsMet : D → Type 0) (Fails : D → K → Type 0) (apart : (d : D) (way : K) → IsMet d → Fails d way → ⊥) where
  -- where all is met there is no first fault
  pub IsFirst-unmet : (checks : List (Check D)) (place : List ℕ) (way : K) → AllMet IsMet checks → IsFirst IsMet Fails place way checks → ⊥
  IsFirst-unmet [] place way met h = h
  IsFirst-unmet (x ∷ xs) place way met h =
      elim h [ inl here ↦ apart x.demand way met.0 here.1 | inr later ↦ IsFirst-unmet xs place way met.1 later.1 ]

  -- there is one first fault at most, where no demand fails in two ways
  pub IsFirst-same : ((d : D) (way other : K) → Fails d way → Fails d other → way ≡ other) → (checks : List (Check D)) (place place' : List ℕ) (way way' : K)
      → IsFirst IsMet Fails place way checks → IsFirst IsMet Fails place' way' checks → (place ≡ place') × (way ≡ way')
  IsFirst-same one [] place place' way way' h k = absurd h
  IsFirst-same one (x ∷ xs) place place' way way' h k =
      elim h [
        | inl here ↦ elim k [
          | inl other ↦ (here.0 ∙ sym other.0, one x.demand way way' here.1 other.1)
          | inr other ↦ absurd (apart x.demand way other.0 here.1)
        ]
        | inr later ↦ elim k [
          | inl other ↦ absurd (apart x.demand way' later.0 other.1)
          | inr other ↦ IsFirst-same one xs place place' way way' later.1 other.1
        ]
      ]
