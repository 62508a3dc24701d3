-- What holds of values, for any file and any variables.
use Rattle.std.specs.Prelude.{◌≡◌, Option, List, IsTrue}
use Rattle.serde_json.specs.Data.{Data}
use Rattle.tf_config_data.specs.Config.{VariableView}
use Rattle.tf_config_refusal.specs.Check.{AllMet}
use Rattle.tf_value_data.specs.Tree.{Entries}
use Rattle.tf_config_json.specs.Values.{AreValues, value_checks}

-- Variables have at most one value each.
abbrev pub ValuesAreOne : Type 0
ValuesAreOne = (file : Option Data) (vs : List VariableView) (values others : Entries) → AreValues file vs values → AreValues file vs others → values ≡ others

-- If variables have values, nothing in them is refused.
abbrev pub ValuesAreFaultless : Type 0
ValuesAreFaultless = (file : Option Data) (vs : List VariableView) (values : Entries) → AreValues file vs values → AllMet IsTrue (value_checks file vs)

-- If nothing is refused, variables have values.
abbrev pub FaultlessHaveValues : Type 0
FaultlessHaveValues = (file : Option Data) (vs : List VariableView) → AllMet IsTrue (value_checks file vs) → (values : Entries) × AreValues file vs values
