-- What a format demands of a text, in walk order.
use Rattle.std.specs.Prelude.{◌≡◌, ◌⊎◌, ℕ, List, [], ◌∷◌}
use Rattle.tf_config_refusal.specs.Place.{dotted}

-- A check is a demand at a place, which is given as its text. Each format defines its demands, and when one is met or
-- fails.
pub record Check (D : Type 0) : Type 0 where
  pub place : List ℕ
  pub demand : D

-- the demand at the place with these steps
abbrev pub demanded : {D : Type 0} → List (List ℕ) → D → List (Check D)
demanded place demand = record { place = dotted place; demand = demand } ∷ []

-- nothing is wrong: each check is met
abbrev pub AllMet : {D : Type 0} → (D → Type 0) → List (Check D) → Type 0
AllMet IsMet [] = Unit {0}
AllMet IsMet (check ∷ checks) = IsMet check.demand × AllMet IsMet checks

-- the first check that isn't met has this place, and fails in this way
abbrev pub IsFirst : {D K : Type 0} → (D → Type 0) → (D → K → Type 0) → List ℕ → K → List (Check D) → Type 0
IsFirst IsMet Fails place way [] = ⊥
IsFirst IsMet Fails place way (check ∷ checks) =
    ((place ≡ check.place) × Fails check.demand way) ⊎ (IsMet check.demand × IsFirst IsMet Fails place way checks)
