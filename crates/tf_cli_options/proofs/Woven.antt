-- Files and assignments among sources, when one more is added.
use Rattle.std.proofs.Common.{◌≡◌, ◌++◌, List, [], ◌∷◌, String, Global, map, string_bytes, refl, ap}
use Rattle.tf_cli_options.specs.Reads.{assignments_in, files_in}
use Rattle.tf_cli_options.specs.declared.words.VariableSource.{VariableSource}
use Rattle.tf_cli_options.specs.declared.words.VariableSource.TheVariants.{File, Assignment}

pub files_in-Assignment : (xs : List VariableSource) (text : String Global) → files_in (xs ++ Assignment text ∷ []) ≡ files_in xs
files_in-Assignment [] text = refl
files_in-Assignment (File x ∷ xs) text = ap (λ r. string_bytes x ∷ r) (files_in-Assignment xs text)
files_in-Assignment (Assignment x ∷ xs) text = files_in-Assignment xs text

pub assignments_in-File : (xs : List VariableSource) (name : String Global) → assignments_in (xs ++ File name ∷ []) ≡ assignments_in xs
assignments_in-File [] name = refl
assignments_in-File (File x ∷ xs) name = assignments_in-File xs name
assignments_in-File (Assignment x ∷ xs) name = ap (λ r. string_bytes x ∷ r) (assignments_in-File xs name)

-- an assignment is moved to the end of sources
pub assignment_moved : (xs : List VariableSource) (text : String Global) (rest : List (String Global))
    → assignments_in (xs ++ Assignment text ∷ []) ++ map (λ t. string_bytes t) rest ≡ assignments_in xs ++ map (λ t. string_bytes t) (text ∷ rest)
assignment_moved [] text rest = refl
assignment_moved (File x ∷ xs) text rest = assignment_moved xs text rest
assignment_moved (Assignment x ∷ xs) text rest = ap (λ r. string_bytes x ∷ r) (assignment_moved xs text rest)

-- a file is moved to the end of sources
pub file_moved : (xs : List VariableSource) (name : String Global) (rest : List (String Global))
    → files_in (xs ++ File name ∷ []) ++ map (λ t. string_bytes t) rest ≡ files_in xs ++ map (λ t. string_bytes t) (name ∷ rest)
file_moved [] name rest = refl
file_moved (File x ∷ xs) name rest = ap (λ r. string_bytes x ∷ r) (file_moved xs name rest)
file_moved (Assignment x ∷ xs) name rest = file_moved xs name rest
