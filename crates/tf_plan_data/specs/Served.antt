-- Which plans a list of providers can carry out.
use Rattle.std.specs.Prelude.{◌≡◌, true, is_some, List}
use Rattle.std.specs.List.{AllByRecursion}
use Rattle.tf_provider_protocol.specs.Meaning.{Meaning, schema_in}
use Rattle.tf_plan_data.specs.Action.{ActionView}

-- some provider in the list has an action's type
abbrev pub IsServedBy : List Meaning → ActionView → Type 0
IsServedBy ms a = is_some (schema_in a.addr.type_name ms) ≡ true

-- each action of a plan is served
abbrev pub AreServed : List Meaning → List ActionView → Type 0
AreServed ms actions = AllByRecursion (IsServedBy ms) actions
