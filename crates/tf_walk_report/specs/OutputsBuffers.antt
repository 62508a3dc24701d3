-- The texts that are reserved for what is reported of outputs.
use Rattle.std.specs.Prelude.{ℕ, List, [], ◌∷◌, ◌++◌, map, string_bytes}
use Rattle.tf_walk_outputs.specs.declared.ends.OutputResult.{OutputResult}
use Rattle.tf_expr_syntax.specs.ExprTree.{Entries, no_entries, entry}
use Rattle.tf_walk_report.specs.Diagnostics.{DiagnosticView}
use Rattle.tf_walk_report.specs.OutputsTold.{diagnostics_of_output, output_place}
use Rattle.tf_walk_report.specs.declared.texts.OutputTexts.{OutputTexts}

-- the places that texts are for
abbrev pub places_in : List OutputTexts → List (List ℕ)
places_in texts = map (λ t. string_bytes t.place) texts

-- the places of outputs, by name
abbrev pub places_of : Entries → List (List ℕ)
places_of no_entries = []
places_of (entry name e es) = output_place name ∷ places_of es

-- the diagnostics of outputs at these places
abbrev pub told_of_texts : List (List ℕ) → List OutputResult → List DiagnosticView
told_of_texts (place ∷ places) (end ∷ ends) = diagnostics_of_output place end ++ told_of_texts places ends
told_of_texts _ _ = []
