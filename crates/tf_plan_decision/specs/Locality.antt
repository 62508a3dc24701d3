-- What holds of the stage of a plan from any prior state.
use Rattle.std.specs.Prelude.{ℕ, List}
use Rattle.tf_plan_decision.specs.Stage.{deciding}
use Rattle.tf_expand_keys.specs.StandingLaws.{IsLocal}
use Rattle.tf_expand_keys.specs.InstanceKeys.{InstanceKeysView}
use Rattle.tf_provider_protocol.specs.Meaning.{Meaning}
use Rattle.tf_state_data.specs.Resource.{ResourceView}

-- A block resolves to the same in environments that agree on what it refers to, whatever the state has.
abbrev pub DecidingIsLocal : Type 0
DecidingIsLocal = (ms : List Meaning) (resources : List ResourceView) (shapes : ℕ → InstanceKeysView) → IsLocal (deciding ms resources shapes)
