-- The value of each declared variable, and the checks of these values.
use Rattle.std.specs.Prelude.{◌≡◌, ℕ, Bool, false, is_some, Option, Some, None, option_and_then, List, [], ◌∷◌, ◌++◌, IsTrue, codes, ⊤}
use Rattle.serde_json.specs.Data.{Data}
use Rattle.serde_json.specs.Find.{get}
use Rattle.tf_config_json.specs.Demand.{Checks, RefusesBy}
use Rattle.tf_config_json.specs.Parts.{literal_checks}
use Rattle.tf_config_data.specs.Config.{VariableView}
use Rattle.tf_config_refusal.specs.Check.{Check, demanded}
use Rattle.tf_config_refusal.specs.declared.code.Code.TheVariants as code
use Rattle.tf_config_refusal.specs.Refusal.{RefusalView, bare, Way}
use Rattle.tf_value_json.specs.Json.{value_from}
use Rattle.tf_value_data.specs.Tree.{Tree, Entries, no_entries, entry}
use Rattle.tf_config_json.specs.Types.{fitted}

-- the value of a name in a variables file, or `None` if there is no file or it doesn't have the name
abbrev pub given : Option Data → List ℕ → Option Data
given None name = None
given (Some tree) name = get name tree

-- The file's value is taken if it has one, even `null`, and else the default.
abbrev pub taken_of : Option Data → Option Tree → Option Tree
taken_of (Some value) default = value_from value
taken_of None default = default

-- A variable's value is the taken one converted to the variable's type, or `None` if there is no value or it doesn't
-- fit.
abbrev pub value_for : Option Data → VariableView → Option Tree
value_for file v = option_and_then (fitted v.value_type) (taken_of (given file v.name) v.default)

-- these are the values of these variables, each under its name, in the same order
abbrev pub AreValues : Option Data → List VariableView → Entries → Type 0
AreValues file [] no_entries = ⊤
AreValues file (v ∷ vs) (entry name value values) = (name ≡ v.name) × (value_for file v ≡ Some value) × AreValues file vs values
AreValues file _ _ = ⊥

-- ---- the checks

-- the file's value of a name is a literal
abbrev pub literal_at : List ℕ → Option Data → Checks
literal_at name None = []
literal_at name (Some value) = literal_checks (name ∷ []) value

-- the checks of the file: its values of the declared variables are literals; it may have other names
abbrev pub file_checks : Option Data → List VariableView → Checks
file_checks file [] = []
file_checks file (v ∷ vs) = literal_at v.name (given file v.name) ++ file_checks file vs

-- `var.NAME`
abbrev pub variable_place : List ℕ → List (List ℕ)
variable_place name = name ∷ codes "var" ∷ []

-- the check of a variable: it has a value
abbrev pub value_check : Option Data → VariableView → List (Check Bool)
value_check file v = demanded (variable_place v.name) (is_some (value_for file v))

abbrev pub value_checks : Option Data → List VariableView → List (Check Bool)
value_checks file [] = []
value_checks file (v ∷ vs) = value_check file v ++ value_checks file vs

-- a variable without a value is refused with 10, BadArgument
abbrev pub HasNone : Bool → Way → Type 0
HasNone has way = (has ≡ false) × (way ≡ (code.BadArgument, bare))

-- The refusal reports the first variable without a value, or out of memory.
abbrev pub RefusesValues : List (Check Bool) → RefusalView → Type 0
RefusesValues = RefusesBy IsTrue HasNone
