-- Places in a JSON text.
use Rattle.std.specs.Prelude.{ℕ, Bool, true, false, List, [], ◌∷◌, ◌++◌}
use Rattle.std.specs.Fmt.{decimal}
use Rattle.tf_config_refusal.specs.declared.path.Path.{Path, fold-Path}
use Rattle.tf_config_refusal.specs.declared.path.Path.TheOpen.{Path-F}

-- A place is the list of the steps that lead to it, the last step first. A step is the name of a property, or a
-- position in an array in decimal digits.
abbrev pub place_step : Path-F (List (List ℕ)) → List (List ℕ)
place_step Path-F.Root = []
place_step (Path-F.Member place name) = name.now ∷ place.now
place_step (Path-F.Item place position) = decimal position ∷ place.now

abbrev pub place_of : Path → List (List ℕ)
place_of = fold-Path (List (List ℕ)) place_step

-- the text of a place: its steps from the top down, joined by dots
abbrev pub dotted : List (List ℕ) → List ℕ
dotted [] = []
dotted (step ∷ []) = step
dotted (step ∷ outer ∷ place) = dotted (outer ∷ place) ++ 46 ∷ step

-- whether a place is the top
abbrev pub is_top : List (List ℕ) → Bool
is_top [] = true
is_top (step ∷ place) = false
