-- The laws that all laws of texts use.
use Rattle.tf_config_json.specs.Laws.{BlocksAreInOrder, RefusedIsNotRead, RefusedOnce, StandsForOne}
use Rattle.tf_laws.specs.Read.{ReadHasOwnNames}
use Rattle.tf_state.specs.Laws.{EmptyIsValid, ReadIsValid, TextIsOfOne}
use Rattle.tf_config_json.specs.VariableLaws.{ValuesAreFaultless, ValuesAreOne}

-- The laws of what reading returns: of configurations, of their refusals, of values, and of states and their texts.
pub record Laws : Type 0 where
  pub one : StandsForOne
  pub order : BlocksAreInOrder
  pub own : ReadHasOwnNames
  pub once : RefusedOnce
  pub not_read : RefusedIsNotRead
  pub values : ValuesAreOne
  pub faultless : ValuesAreFaultless
  pub read : ReadIsValid
  pub empty : EmptyIsValid
  pub state : TextIsOfOne
