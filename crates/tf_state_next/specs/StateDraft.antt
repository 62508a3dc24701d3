-- The draft of the state after an apply, allocated before the first call.
use Rattle.std.specs.Prelude.{◌≡◌, ℕ, if◌then◌else◌, List, [], Option, Some, None, IfSome, map, slice_get, string_bytes, count_by}
use Rattle.std.specs.List.{list_any}
use Rattle.std.specs.Option.{option_or}
use Rattle.tf_config_address.specs.ResourceAddr.{ResourceAddrView, addr_of}
use Rattle.tf_config_address.specs.Same.{same_addr}
use Rattle.tf_state_next.specs.declared.draft.StateDraft.{StateDraft}
use Rattle.tf_state_data.specs.Addresses.{AreByAddress}
use Rattle.tf_state_data.specs.Provider.{provider_text}
use Rattle.tf_state_data.specs.Resource.{ResourceView, HasRoomForRecords, resource_of}
use Rattle.tf_state_data.specs.State.{StateView, resource_at, state_of}
use Rattle.tf_state_data.specs.declared.resource.Resource.{Resource}

-- a resource of which no object is known yet
abbrev pub empty_home : ResourceAddrView → ResourceView
empty_home addr = record { addr = addr; provider = provider_text addr.type_name; records = [] }

-- An address has the resource that the prior state has there. If the prior state has no resource there and the address
-- is one of these, it has an empty one.
abbrev pub home_at : List ResourceView → List ResourceAddrView → ResourceAddrView → Option ResourceView
home_at prior addrs addr = option_or (resource_at addr prior) (if list_any (λ l. same_addr l addr) addrs then Some (empty_home addr) else None)

-- each resource has space for as many more records as are counted for its address
abbrev pub HaveRoom : (ResourceAddrView → ℕ) → List Resource → Type 0
HaveRoom count draft = (n : ℕ) → IfSome (slice_get draft n) (λ r. HasRoomForRecords (count (addr_of r.addr)) r)

-- how often an address is one of these
abbrev pub count_of : List ResourceAddrView → ResourceAddrView → ℕ
count_of addrs addr = count_by (λ l. same_addr l addr) addrs

-- how often the address of each resource is one of these
abbrev pub counts_at : List ResourceAddrView → List ResourceView → List ℕ
counts_at addrs resources = map (λ r. count_of addrs r.addr) resources

-- The draft has resources for all that a prior state has and for creates and updates at these addresses, in the order
-- of their addresses, each with space for one record of each create or update at its address. It also has the lineage
-- and the version that a state keeps.
pub record IsStateDraft (prior : StateView) (addrs : List ResourceAddrView) (draft : StateDraft) : Type 0 where
  pub of_prior : state_of draft.prior.now ≡ prior
  pub resources : (addr : ResourceAddrView) → resource_at addr (map resource_of draft.resources.items) ≡ home_at prior.resources addrs addr
  pub ordered : AreByAddress (map resource_of draft.resources.items)
  pub room : HaveRoom (count_of addrs) draft.resources.items
  pub lineage : string_bytes draft.lineage ≡ prior.lineage
  pub version : string_bytes draft.terraform_version ≡ prior.terraform_version

-- Resources with one more, empty, at each of these addresses that had no resource, in the order of addresses.
pub record AreAdded (addrs : List ResourceAddrView) (before after : List ResourceView) : Type 0 where
  pub resources : (addr : ResourceAddrView) → resource_at addr after ≡ home_at before addrs addr
  pub ordered : AreByAddress after
