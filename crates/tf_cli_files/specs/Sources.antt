-- The sources of variables' values, as they are read.
use Rattle.std.specs.Prelude.{◌≡◌, ℕ, List, [], ◌∷◌, Vec, Ok, Result, string_bytes}
use Rattle.std.specs.declared.alloc.Global.{Global}
use Rattle.tf_cli_options.specs.declared.words.VariableSource.{VariableSource}
use Rattle.tf_cli_options.specs.declared.words.VariableSource.TheVariants as named
use Rattle.tf_cli_variables.specs.declared.source.Source.{Source}
use Rattle.tf_cli_variables.specs.declared.source.Source.TheVariants.{File, Assignment}

-- A file has the content that was read of it, and an assignment its own text.
abbrev pub ReadsSource : {E : Type 0} → (List ℕ → Result (Vec ℕ Global) E → Type 0) → VariableSource → Source → Type 0
ReadsSource Reads (named.File name) (File bytes) = Reads (string_bytes name) (Ok bytes)
ReadsSource Reads (named.Assignment text) (Assignment copy) = string_bytes copy ≡ string_bytes text
ReadsSource Reads _ _ = ⊥

-- each source was read so
abbrev pub EachRead : {E : Type 0} → (List ℕ → Result (Vec ℕ Global) E → Type 0) → List VariableSource → List Source → Type 0
EachRead Reads [] [] = Unit {0}
EachRead Reads (name ∷ names) (source ∷ sources) = ReadsSource Reads name source × EachRead Reads names sources
EachRead Reads _ _ = ⊥
