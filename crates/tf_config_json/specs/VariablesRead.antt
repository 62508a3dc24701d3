-- When variables have values, and what is refused.
use Rattle.std.specs.Prelude.{◌≡◌, ◌⊎◌, ℕ, ◌<◌, ◌≤◌, Bool, false, is_some, Option, Some, None, List, [], ◌∷◌, length, IsTrue, codes}
use Rattle.serde_json.specs.Data.{Data}
use Rattle.serde_json.specs.Find.{as_object}
use Rattle.tf_config_json.specs.Demand.{AreMet, Refuses}
use Rattle.tf_config_json.specs.Reading.{IsTree, IsNotJsonAt}
use Rattle.tf_config_data.specs.Config.{VariableView}
use Rattle.tf_config_refusal.specs.Place.{dotted}
use Rattle.tf_config_refusal.specs.declared.code.Code.{Code}
use Rattle.tf_config_refusal.specs.declared.code.Code.TheVariants as code
use Rattle.tf_config_refusal.specs.Refusal.{RefusalView, no_memory, workers, fault, bare}
use Rattle.tf_config_json.specs.Values.{file_checks, value_checks, RefusesValues}

-- the largest size of a variables file, in bytes
abbrev pub max_bytes : ℕ
max_bytes = 4194304

-- the name of the variables file, as a place
abbrev pub the_file : List (List ℕ)
the_file = codes "variables" ∷ []

abbrev pub is_object : Data → Bool
is_object tree = is_some (as_object tree)

-- The text is one object, within the size limit.
abbrev pub IsFile : List ℕ → Data → Type 0
IsFile bytes tree = (length bytes ≤ max_bytes) × IsTree bytes tree × IsTrue (is_object tree)

-- if there is a text, the file is its tree
abbrev pub IsFileOf : Option (List ℕ) → Option Data → Type 0
IsFileOf None None = Unit {0}
IsFileOf (Some bytes) (Some tree) = IsFile bytes tree
IsFileOf _ _ = ⊥

-- a bare fault of the whole file
abbrev pub file_fault : Code → RefusalView
file_fault code = fault code (dotted the_file) bare

-- The refusal of a text that isn't a variables file: it is too long (14), it isn't JSON (1), or it isn't an object (2).
abbrev pub IsNoFile : List ℕ → RefusalView → Type 0
IsNoFile bytes refusal =
    ((max_bytes < length bytes) × (refusal ≡ file_fault code.Limit))
    ⊎ ((length bytes ≤ max_bytes)
    × (IsNotJsonAt the_file bytes refusal ⊎ ((tree : Data) × IsTree bytes tree × (is_object tree ≡ false) × (refusal ≡ file_fault code.BadShape))))

-- The refusal reports that, or out of memory.
abbrev pub TellsNoFile : List ℕ → RefusalView → Type 0
TellsNoFile bytes no_memory = Unit {0}
TellsNoFile bytes workers = ⊥
TellsNoFile bytes (fault code place detail) = IsNoFile bytes (fault code place detail)

-- The refusal of a file and declared variables: the first fault in the file, or else the first variable without a
-- value.
abbrev pub IsFaulty : Option Data → List VariableView → RefusalView → Type 0
IsFaulty file vs refusal = Refuses (file_checks file vs) refusal ⊎ (AreMet (file_checks file vs) × RefusesValues (value_checks file vs) refusal)

abbrev pub TellsFaulty : Option Data → List VariableView → RefusalView → Type 0
TellsFaulty file vs no_memory = Unit {0}
TellsFaulty file vs workers = ⊥
TellsFaulty file vs (fault code place detail) = IsFaulty file vs (fault code place detail)

-- the refusal of a text, if there is one, in the order of the checks
abbrev pub IsRefusedAs : Option (List ℕ) → List VariableView → RefusalView → Type 0
IsRefusedAs None vs refusal = IsFaulty None vs refusal
IsRefusedAs (Some bytes) vs refusal = IsNoFile bytes refusal ⊎ ((tree : Data) × IsFile bytes tree × IsFaulty (Some tree) vs refusal)

-- Out of memory may be the refusal of any text.
abbrev pub IsRefused : Option (List ℕ) → List VariableView → RefusalView → Type 0
IsRefused text vs no_memory = Unit {0}
IsRefused text vs workers = ⊥
IsRefused text vs (fault code place detail) = IsRefusedAs text vs (fault code place detail)
