-- What a walk over names adds to what it found.
use Rattle.std.specs.Prelude.{◌≡◌, ◌++◌, ℕ, List, map, string_bytes}
use Rattle.tf_expr_syntax.specs.TemplateNames.{Pair, reference_of}
use Rattle.tf_expr_syntax.specs.declared.names.Names.{Names}

-- the walk adds these references and these names of calls after those found before
abbrev pub Adds : Names → Names → List Pair → List (List ℕ) → Type 0
Adds old new named called =
    (map (λ r. reference_of r.now) new.references.items ≡ map (λ r. reference_of r.now) old.references.items ++ named)
    × (map (λ f. string_bytes f.now) new.functions.items ≡ map (λ f. string_bytes f.now) old.functions.items ++ called)
