-- The checks of an expression, among those of a larger format.
use Rattle.std.proofs.Common.{ℕ, List, [], ◌∷◌, inl, inr}
use Rattle.tf_config_refusal.specs.Check.{Check, AllMet, IsFirst}
use Rattle.tf_expr_json.specs.Demand.{Demand, IsMet, Fails}
use Rattle.tf_expr_json.specs.Within.{demanded_as}
use Rattle.tf_expr_json.specs.declared.fault.ExprCause.{ExprCause}

module _ {E : Type 0} (IsMetThere : E → Type 0) (as_one : Demand → E) where
  -- checks that are met are met there
  pub AllMet-demanded_as : ((d : Demand) → IsMet d → IsMetThere (as_one d)) → (checks : List (Check Demand)) → AllMet IsMet checks → AllMet IsMetThere (demanded_as as_one checks)
  AllMet-demanded_as one [] met = tt
  AllMet-demanded_as one (check ∷ checks) met = (one check.demand met.0, AllMet-demanded_as one checks met.1)

  -- and checks that are met there are met
  pub AllMet-from_demanded_as : ((d : Demand) → IsMetThere (as_one d) → IsMet d) → (checks : List (Check Demand)) → AllMet IsMetThere (demanded_as as_one checks) → AllMet IsMet checks
  AllMet-from_demanded_as one [] met = tt
  AllMet-from_demanded_as one (check ∷ checks) met = (one check.demand met.0, AllMet-from_demanded_as one checks met.1)

  module _ {K : Type 0} (FailsThere : E → K → Type 0) (way : K) (place : List ℕ) (cause : ExprCause) where
    -- the first fault is the first there
    pub IsFirst-demanded_as : ((d : Demand) → IsMet d → IsMetThere (as_one d)) → ((d : Demand) → Fails d cause → FailsThere (as_one d) way)
        → (checks : List (Check Demand)) → IsFirst IsMet Fails place cause checks → IsFirst IsMetThere FailsThere place way (demanded_as as_one checks)
    IsFirst-demanded_as met fails [] first = absurd first
    IsFirst-demanded_as met fails (check ∷ checks) first =
        elim first [
          | inl here ↦ inl (here.0, fails check.demand here.1)
          | inr later ↦ inr (met check.demand later.0, IsFirst-demanded_as met fails checks later.1)
        ]
