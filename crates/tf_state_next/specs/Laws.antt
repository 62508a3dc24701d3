-- Laws on the state after an apply.
use Rattle.std.specs.Prelude.{◌≡◌, ◌+◌, ◌<◌, ◌^◌}
use Rattle.std.specs.List.{AllByRecursion}
use Rattle.tf_config_address.specs.ResourceAddr.{ResourceAddrView}
use Rattle.tf_config_address.specs.ObjectId.{InstanceKeyView}
use Rattle.tf_state_next.specs.Events.{EventsView, ends_in, given_in}
use Rattle.tf_state_next.specs.Sound.{AreSound}
use Rattle.tf_state_next.specs.StateAfter.{IsStateAfter}
use Rattle.tf_state.specs.Valid.{IsValid}
use Rattle.tf_state_next.specs.Ends.{InstanceResultView, RecordInputView}
use Rattle.tf_state_data.specs.Addresses.{AreByAddress}
use Rattle.tf_state_data.specs.Ids.{AreById}
use Rattle.tf_state_data.specs.State.{StateView}
use Rattle.tf_value_data.specs.Stored.{IsTable}
use Rattle.tf_value_data.specs.Tree.{Entries}

-- resources are in the order of their addresses, and the records of each in the order of their ids, as in each state
pub record IsInOrder (s : StateView) : Type 0 where
  pub resources : AreByAddress s.resources
  pub records : AllByRecursion (λ r. AreById r.records) s.resources

-- At most one state follows from what each instance is given and from the outcomes of its actions.
abbrev pub StateAfterIsOne : Type 0
StateAfterIsOne =
    (prior : StateView) (given : ResourceAddrView → InstanceKeyView → RecordInputView) (ends : ResourceAddrView → InstanceKeyView → InstanceResultView) (outputs : Entries) (s t : StateView)
    → IsInOrder s → IsInOrder t → IsStateAfter prior given ends outputs s → IsStateAfter prior given ends outputs t → s ≡ t

-- The state after a valid state is valid, if what was recorded is sound and the outputs may be stored.
abbrev pub StateAfterIsValid : Type 0
StateAfterIsValid =
    (prior : StateView) (e : EventsView) (outputs : Entries) (s : StateView)
    → IsValid prior → prior.serial + 1 < 2 ^ 32 → AreSound e → IsTable outputs → IsInOrder s → IsStateAfter prior (given_in e) (ends_in e) outputs s → IsValid s
