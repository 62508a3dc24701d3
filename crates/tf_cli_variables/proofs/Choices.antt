-- Which text is that of the variables' values.
use Rattle.std.proofs.Common.{◌≡◌, ℕ, List, [], ◌∷◌, true, false, true≢false, Option, Some, None, Vec, Global, option_map, refl, sym, ap, inr}
use Rattle.std.specs.List.{slice_get}
use Rattle.std.specs.Prelude.{MatchOption, option_and_then}
use Rattle.serde_json.specs.Data.{Data}
use Rattle.tf_cli_variables.specs.Choice.{AreTogether, AreVariables, IsChosen, IsRefused, file_of, is_one_file, text_of}
use Rattle.tf_cli_variables.specs.Merge.{IsFirstBad, IsUnmerged}
use Rattle.tf_cli_variables.specs.Values.{IsBadSource, Text}
use Rattle.tf_cli_variables.specs.declared.choosing.Choice.TheVariants as choice
use Rattle.tf_cli_variables.specs.declared.source.Cause.TheVariants.{NotAFile}
use Rattle.tf_cli_variables.specs.declared.source.MergeFault.{MergeFault}
use Rattle.tf_cli_variables.specs.declared.source.MergeFault.TheVariants.{OutOfMemory, Configuration, BadSource}
use Rattle.tf_cli_variables.specs.declared.source.Source.{Source}
use Rattle.tf_cli_variables.specs.declared.source.Source.TheVariants.{File, Assignment}

-- without a source there is no text
pub no_source : (config : Text) (sources : List Source) → sources ≡ [] → IsChosen config sources choice.Nothing
no_source config [] is = refl
no_source config (s ∷ sources) is = absurd (some is)
  where
    some : s ∷ sources ≡ [] → ⊥
    some e = cc

-- a file that is the only source is the text
pub one_file : (config : Text) (sources : List Source) → is_one_file sources ≡ true → IsChosen config sources (choice.File 0)
one_file config [] is = absurd (true≢false (sym is))
one_file config (File bytes ∷ []) is = refl
one_file config (Assignment text ∷ []) is = absurd (true≢false (sym is))
one_file config (File bytes ∷ s ∷ sources) is = absurd (true≢false (sym is))
one_file config (Assignment text ∷ s ∷ sources) is = absurd (true≢false (sym is))

-- otherwise the sources together give the text
pub together : (config : Text) (sources : List Source) (text : Option Text) → (sources ≡ [] → ⊥) → is_one_file sources ≡ false → AreTogether config sources text → AreVariables config sources text
together config [] text some several are = absurd (some refl)
together config (File bytes ∷ []) text some several are = absurd (true≢false several)
together config (Assignment assigned ∷ []) text some several are = are
together config (File bytes ∷ s ∷ sources) text some several are = are
together config (Assignment assigned ∷ s ∷ sources) text some several are = are

file_behind : (tree : Data) (found : Option Source) → MatchOption found ⊥ (λ source. IsBadSource tree source NotAFile)
    → (bytes : Vec ℕ Global) × (option_and_then file_of found ≡ Some bytes) × (option_map (λ b. b.items) (option_and_then file_of found) ≡ Some bytes.items)
file_behind tree None is = absurd is
file_behind tree (Some (File bytes)) is = (bytes, refl, refl)
file_behind tree (Some (Assignment text)) is = absurd is

-- the first source without values is a file
pub bad_file : (config : Text) (sources : List Source) (position : ℕ) → IsFirstBad config sources position NotAFile
    → AreTogether config sources (text_of sources (choice.File position))
bad_file config sources position is =
    let file = file_behind is.0 (slice_get sources position) is.2.1 in
    inr (inr (position, (is, file.0, file.1, file.2)))

-- the first source without values is an assignment, or memory ran out
pub refused : (config : Text) (sources : List Source) (fault : MergeFault) → IsUnmerged config sources fault → (fault ≡ Configuration → ⊥) → ((position : ℕ) → fault ≡ BadSource position NotAFile → ⊥)
    → IsRefused config sources fault
refused config sources OutOfMemory is json file = tt
refused config sources Configuration is json file = absurd (json refl)
refused config sources (BadSource position cause) is json file = (is, λ e. file position (ap (BadSource position) e))
