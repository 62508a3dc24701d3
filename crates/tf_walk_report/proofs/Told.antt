-- What is told of outputs, one after another.
use Rattle.std.proofs.Common.{◌≡◌, ℕ, List, [], ◌∷◌, ◌++◌, string_bytes, refl, ap}
use Rattle.tf_walk_outputs.specs.declared.ends.OutputResult.{OutputResult}
use Rattle.tf_expr_syntax.specs.ExprTree.{Entries, no_entries, entry}
use Rattle.tf_walk_report.specs.OutputsBuffers.{places_in, places_of, told_of_texts}
use Rattle.tf_walk_report.specs.OutputsTold.{diagnostics_of_output, output_diagnostics, output_place}
use Rattle.tf_walk_report.specs.declared.texts.OutputTexts.{OutputTexts}

-- the place of one output more
pub places-more : (texts : List OutputTexts) (t : OutputTexts) (place : List ℕ) (rest : List (List ℕ)) → string_bytes t.place ≡ place → places_in (texts ++ t ∷ []) ++ rest ≡ places_in texts ++ place ∷ rest
places-more [] t place rest e = ap (λ p. p ∷ rest) e
places-more (x ∷ texts) t place rest e = ap (λ ps. string_bytes x.place ∷ ps) (places-more texts t place rest e)

pub places-none : (texts : List OutputTexts) → places_in texts ++ [] ≡ places_in texts
places-none [] = refl
places-none (t ∷ texts) = ap (λ ps. string_bytes t.place ∷ ps) (places-none texts)

-- what is told of the outputs of a configuration
pub told-places : (es : Entries) (ends : List OutputResult) → told_of_texts (places_of es) ends ≡ output_diagnostics es ends
told-places no_entries ends = refl
told-places (entry key e es) [] = refl
told-places (entry key e es) (end ∷ ends) = ap (λ ts. diagnostics_of_output (output_place key) end ++ ts) (told-places es ends)
