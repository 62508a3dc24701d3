-- The state after an apply.
use Rattle.std.specs.Prelude.{◌≡◌, ◌+◌, ℕ, Bool, true, if◌then◌else◌, List, Some}
use Rattle.std.specs.List.{AllByRecursion}
use Rattle.std.specs.Option.{option_map_or}
use Rattle.tf_config_address.specs.ResourceAddr.{ResourceAddrView}
use Rattle.tf_config_address.specs.ObjectId.{InstanceKeyView, ObjectIdView}
use Rattle.tf_state.specs.Arrangement.{is_some_record}
use Rattle.tf_state_next.specs.After.{Places, instance_after, object_at}
use Rattle.tf_state_next.specs.Ends.{InstanceResultView, RecordInputView}
use Rattle.tf_state_data.specs.Equality.{same_state}
use Rattle.tf_state_data.specs.Provider.{provider_text}
use Rattle.tf_state_data.specs.Resource.{ResourceView}
use Rattle.tf_state_data.specs.State.{StateView, record_in, resource_at}
use Rattle.tf_value_data.specs.Tree.{Entries}

-- what a state knows of the objects of an instance
abbrev pub places_at : ResourceAddrView → InstanceKeyView → StateView → Places
places_at addr key s deposed = record_in addr (object_at key deposed) s

-- a resource of which an object is known
abbrev pub has_records : ResourceView → Bool
has_records r = is_some_record r.records

-- The provider of a resource: that of the prior state, if it has the resource, or else that of its type.
abbrev pub provider_after : StateView → ResourceAddrView → List ℕ
provider_after prior addr = option_map_or (λ r. r.provider) (resource_at addr prior.resources) (provider_text addr.type_name)

-- whether states are the same except for their serials
abbrev pub is_same : StateView → StateView → Bool
is_same prior after = same_state (record after { serial = prior.serial }) prior

-- The serial is one more than the prior one exactly if the rest of the state isn't the same.
abbrev pub next_serial : StateView → StateView → ℕ
next_serial prior after = if is_same prior after then prior.serial else prior.serial + 1

-- The state after an apply, by what each instance is given, the outcomes of its actions, and the outputs. What is known
-- of each object follows from its instance's actions. A resource exists exactly if an object of it is known, and has
-- its provider. The outputs are the given ones. Lineage and version stay. The serial is one more exactly if the rest
-- isn't the same.
pub record IsStateAfter (prior : StateView) (given : ResourceAddrView → InstanceKeyView → RecordInputView) (ends : ResourceAddrView → InstanceKeyView → InstanceResultView) (outputs : Entries) (after : StateView) : Type 0 where
  pub records : (addr : ResourceAddrView) (id : ObjectIdView) → record_in addr id after ≡ instance_after (given addr id.key) (ends addr id.key) (places_at addr id.key prior) id.deposed
  pub present : AllByRecursion (λ r. has_records r ≡ true) after.resources
  pub providers : (addr : ResourceAddrView) (r : ResourceView) → resource_at addr after.resources ≡ Some r → r.provider ≡ provider_after prior addr
  pub outputs_are : after.outputs ≡ outputs
  pub lineage : after.lineage ≡ prior.lineage
  pub version : after.terraform_version ≡ prior.terraform_version
  pub serial : after.serial ≡ next_serial prior after
