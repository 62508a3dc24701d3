-- An expression within a larger format, whose demands include those of expressions.
use Rattle.std.specs.Prelude.{List, [], ◌∷◌}
use Rattle.tf_config_refusal.specs.Check.{Check}

-- the same checks at the same places, each demand as one of the larger format
abbrev pub demanded_as : {D E : Type 0} → (D → E) → List (Check D) → List (Check E)
demanded_as as_one [] = []
demanded_as as_one (check ∷ checks) = record { place = check.place; demand = as_one check.demand } ∷ demanded_as as_one checks
