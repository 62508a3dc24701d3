-- What is found on the way through a list or a map, as both walks over names keep it.
use Rattle.std.proofs.Common.{◌≡◌, ◌++◌, ℕ, List, map, string_bytes}
use Rattle.tf_expr_syntax.specs.TemplateNames.{Pair, reference_of}
use Rattle.tf_expr_syntax.specs.declared.names.Names.{Names}

-- what is found so far, and what the parts that are left give, are what there is to find
abbrev pub Finds : {X : Type 0} → Names → Names → (X → List Pair) → (X → List (List ℕ)) → X → X → Type 0
Finds found first named called left all =
    (map (λ r. reference_of r.now) found.references.items ++ named left ≡ map (λ r. reference_of r.now) first.references.items ++ named all) × (map (λ f. string_bytes f.now) found.functions.items ++ called left ≡ map (λ f. string_bytes f.now) first.functions.items ++ called all)
