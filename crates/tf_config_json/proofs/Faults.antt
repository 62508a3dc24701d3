-- What is told of a file and declared variables.
use Rattle.std.proofs.Common.{◌≡◌, ℕ, Bool, false, Option, List, inl}
use Rattle.serde_json.specs.Data.{Data}
use Rattle.tf_config_json.specs.Demand.{Refuses, TellsAt}
use Rattle.tf_config_data.specs.Config.{VariableView}
use Rattle.tf_config_refusal.specs.Check.{demanded}
use Rattle.tf_config_refusal.specs.Place.{dotted}
use Rattle.tf_config_refusal.specs.declared.code.Code.TheVariants as code
use Rattle.tf_config_refusal.specs.Refusal.{RefusalView, no_memory, workers, fault, bare}
use Rattle.tf_config_json.specs.VariablesRead.{TellsFaulty}
use Rattle.tf_config_json.specs.Values.{file_checks, RefusesValues}

pub refuses_none : (place : List (List ℕ)) (has : Bool) (t : RefusalView) → has ≡ false → TellsAt (dotted place) (code.BadArgument, bare) t → RefusesValues (demanded place has) t
refuses_none place has no_memory none h = tt
refuses_none place has workers none h = absurd h
refuses_none place has (fault code at detail) none h = inl (h.0, (none, h.1))

module _ (file : Option Data) (vs : List VariableView) where
  pub file_faulty : (t : RefusalView) → Refuses (file_checks file vs) t → TellsFaulty file vs t
  file_faulty no_memory h = tt
  file_faulty workers h = absurd h
  file_faulty (fault code place detail) h = inl h
