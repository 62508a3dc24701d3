-- The sources of variables' values, read one after another.
use Rattle.std.proofs.Common.{◌≡◌, ◌<◌, ◌+◌, ◌++◌, ℕ, List, [], ◌∷◌, Result, Vec, Global, length, get_or, take, sym, ap, ◌∙◌, subst}
use Rattle.std.proofs.lemmas.List.{take_more}
use Rattle.tf_cli_files.specs.Sources.{EachRead, ReadsSource}
use Rattle.tf_cli_options.specs.declared.words.VariableSource.{VariableSource}
use Rattle.tf_cli_variables.specs.declared.source.Source.{Source}

module _ {E : Type 0} (Reads : List ℕ → Result (Vec ℕ Global) E → Type 0) where
  each_read-more : (names : List VariableSource) (sources : List Source) (name : VariableSource) (source : Source)
      → EachRead Reads names sources → ReadsSource Reads name source → EachRead Reads (names ++ name ∷ []) (sources ++ source ∷ [])
  each_read-more [] [] name source all one = (one, tt)
  each_read-more [] (s ∷ sources) name source all one = absurd all
  each_read-more (n ∷ names) [] name source all one = absurd all
  each_read-more (n ∷ names) (s ∷ sources) name source all one = (all.0, each_read-more names sources name source all.1 one)

  -- the next source is read
  pub each_read-next : (names : List VariableSource) (i : ℕ) (sources : List Source) (name : VariableSource) (source : Source) → i < length names → name ≡ get_or names i name
      → EachRead Reads (take i names) sources → ReadsSource Reads name source → EachRead Reads (take (i + 1) names) (sources ++ source ∷ [])
  each_read-next names i sources name source within is all one =
      subst (λ xs. EachRead Reads xs (sources ++ source ∷ []))
      (ap (λ n. take i names ++ n ∷ []) is ∙ sym (take_more names i name within))
      (each_read-more (take i names) sources name source all one)
