-- The end of a program that has a state to write.
use Rattle.std.proofs.Common.{inl, inr}
use Rattle.std.specs.Prelude.{◌≡◌, ◌⊎◌, ℕ, List, Option, Some, None, string_bytes}
use Rattle.std.specs.Borrow.{MutBor}
use Rattle.std.specs.Io.KnownBytes.{Appends}
use Rattle.tf_cli_lines.specs.Saved.{AppendsStart}
use Rattle.tf_cli_lines.specs.Lines.{unwritten_line}
use Rattle.tf_cli_files.specs.declared.log_file.Settled.{Settled}
use Rattle.tf_cli_files.specs.declared.log_file.Settled.TheVariants.{Replaced}
use Rattle.tf_cli_files.specs.declared.replacing.InPlace.{InPlace}

-- The opened file got a beginning of the text and nothing else. (The second argument is what is left of an
-- `Option<&mut W>`.)
abbrev pub TakesStart : {W : Type 0} → (W → Option (List ℕ)) → Option (MutBor W) → Unit {0} ⊎ ((MutBor W × Unit {0}) ⊎ ⊥) → List ℕ → Type 0
TakesStart contents (Some file) (inr (inl left)) text = AppendsStart (contents file.now) (contents left.0.now) text
TakesStart contents (Some file) _ text = ⊥
TakesStart contents None _ text = Unit {0}

-- a file was opened, and it got the whole text
abbrev pub TakesWhole : {W : Type 0} → (W → Option (List ℕ)) → Option (MutBor W) → Unit {0} ⊎ ((MutBor W × Unit {0}) ⊎ ⊥) → List ℕ → Type 0
TakesWhole contents (Some file) (inr (inl left)) text = Appends (contents file.now) (contents left.0.now) text
TakesWhole contents _ _ text = ⊥

-- The state is written, the status stays and nothing is printed. Or the status is 3, standard output got a beginning
-- of the state's text, and standard error a beginning of the line that reports this.
abbrev pub EndsKept : (status result : ℕ) (text : List ℕ) (out out_after err err_after : Option (List ℕ)) → Type 0
EndsKept status result text out out_after err err_after =
    ((result ≡ status) × (out_after ≡ out) × (err_after ≡ err))
    ⊎ ((result ≡ 3) × AppendsStart out out_after text × AppendsStart err err_after unwritten_line)

-- the text that the state file has
abbrev pub text_in_place : InPlace → List ℕ
text_in_place in_place = string_bytes in_place.text

-- the text by which the state file was replaced, if it was
abbrev pub replaced_text : Settled → Option (List ℕ)
replaced_text (Replaced in_place) = Some (text_in_place in_place)
replaced_text _ = None
