-- The text of the variables' values that any number of sources give together.
use Rattle.std.specs.Prelude.{◌≡◌, ◌⊎◌, ℕ, Bool, true, false, List, [], ◌∷◌, Option, Some, None, option_and_then, option_map, Vec}
use Rattle.std.specs.List.{slice_get}
use Rattle.std.specs.declared.alloc.Global.{Global}
use Rattle.tf_cli_variables.specs.Merge.{IsFirstBad, IsMerge, IsNotJson}
use Rattle.tf_cli_variables.specs.Values.{Text}
use Rattle.tf_cli_variables.specs.declared.choosing.Choice.{Choice}
use Rattle.tf_cli_variables.specs.declared.choosing.Choice.TheVariants as choice
use Rattle.tf_cli_variables.specs.declared.source.Cause.TheVariants.{NotAFile}
use Rattle.tf_cli_variables.specs.declared.source.MergeFault.{MergeFault}
use Rattle.tf_cli_variables.specs.declared.source.MergeFault.TheVariants.{OutOfMemory, Configuration, BadSource}
use Rattle.tf_cli_variables.specs.declared.source.Source.{Source}
use Rattle.tf_cli_variables.specs.declared.source.Source.TheVariants.{File, Assignment}

-- the bytes of a source that is a file
abbrev pub file_of : Source → Option (Vec ℕ Global)
file_of (File bytes) = Some bytes
file_of (Assignment text) = None

-- the bytes of the source at a position, if it is a file
abbrev pub file_at : List Source → ℕ → Option (Vec ℕ Global)
file_at sources position = option_and_then file_of (slice_get sources position)

-- a file is the only source
abbrev pub is_one_file : List Source → Bool
is_one_file (File bytes ∷ []) = true
is_one_file _ = false

-- The first source without values is the file at this position, and these are its bytes.
abbrev pub IsBadFileAt : Text → List Source → ℕ → Option Text → Type 0
IsBadFileAt config sources position text =
    IsFirstBad config sources position NotAFile
    × (bytes : Vec ℕ Global) × (file_at sources position ≡ Some bytes) × (text ≡ Some bytes.items)

-- The sources are merged. If the configuration isn't JSON, there is no text. If the first source without values is a file, the
-- text is that of this file.
abbrev pub AreTogether : Text → List Source → Option Text → Type 0
AreTogether config sources text =
    ((bytes : Text) × IsMerge config sources bytes × (text ≡ Some bytes))
    ⊎ ((IsNotJson config × (text ≡ None)) ⊎ ((position : ℕ) × IsBadFileAt config sources position text))

-- The text of the variables' values. Without a source there is none, and if a file is the only source, it is that of the file.
abbrev pub AreVariables : Text → List Source → Option Text → Type 0
AreVariables config [] text = text ≡ None
AreVariables config (File bytes ∷ []) text = text ≡ Some bytes.items
AreVariables config sources text = AreTogether config sources text

-- Why there is no text: the first source without values is an assignment. Memory may run out for any.
abbrev pub IsRefused : Text → List Source → MergeFault → Type 0
IsRefused config sources OutOfMemory = Unit {0}
IsRefused config sources Configuration = ⊥
IsRefused config sources (BadSource position cause) = IsFirstBad config sources position cause × (cause ≡ NotAFile → ⊥)

-- the text of a choice
abbrev pub text_of : List Source → Choice → Option Text
text_of sources choice.Nothing = None
text_of sources (choice.File position) = option_map (λ bytes. bytes.items) (file_at sources position)
text_of sources (choice.Merged bytes) = Some bytes.items

abbrev pub IsChosen : Text → List Source → Choice → Type 0
IsChosen config sources chosen = AreVariables config sources (text_of sources chosen)
