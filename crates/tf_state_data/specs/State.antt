-- The content of a state, as plain data.
use Rattle.std.specs.Prelude.{◌+◌, ◌≤◌, ℕ, List, [], Option, option_and_then, map, codes, String, string_bytes, vec_len, vec_capacity}
use Rattle.std.specs.declared.alloc.Global.{Global}
use Rattle.tf_config_address.specs.ResourceAddr.{ResourceAddrView, addr_cmp}
use Rattle.tf_state_data.specs.Order.{at_key, with_one, without_one}
use Rattle.tf_config_address.specs.ObjectId.{ObjectIdView}
use Rattle.tf_state_data.specs.Record.{RecordView}
use Rattle.tf_state_data.specs.Resource.{ResourceView, record_at, resource_of}
use Rattle.tf_state_data.specs.declared.object.Object.{Object}
use Rattle.tf_state_data.specs.declared.state.State.{State}
use Rattle.tf_value_data.specs.Tree.{Entries, no_entries, entries_of, tree_of}

-- a state, with its outputs by name
pub record StateView : Type 0 where
  pub serial : ℕ
  pub lineage : List ℕ
  pub terraform_version : List ℕ
  pub outputs : Entries
  pub resources : List ResourceView

-- the outputs of a map, as plain data
abbrev pub outputs_of : List (String Global × Object) → Entries
outputs_of es = entries_of (map (λ e. (e.0, tree_of e.1.value)) es)

abbrev pub state_of : State → StateView
state_of s =
    record { serial = s.serial; lineage = string_bytes s.lineage; terraform_version = string_bytes s.terraform_version; outputs = outputs_of s.outputs.entries; resources = map resource_of s.resources.items }

-- the state before anything exists
abbrev pub empty_state : List ℕ → StateView
empty_state lineage = record { serial = 0; lineage = lineage; terraform_version = codes "1.0.0"; outputs = no_entries; resources = [] }

-- the resource at an address
abbrev pub resource_at : ResourceAddrView → List ResourceView → Option ResourceView
resource_at = at_key (λ r. r.addr) addr_cmp

-- the record of a state, by the address of its resource and by its id
abbrev pub record_in : ResourceAddrView → ObjectIdView → StateView → Option RecordView
record_in addr id s = option_and_then (λ r. record_at id r.records) (resource_at addr s.resources)

-- the state with a resource at its address, whether one was there or not
abbrev pub with_resource : ResourceView → StateView → StateView
with_resource new s = record s { resources = with_one (λ r. r.addr) addr_cmp new s.resources }

-- the state without the resource at an address
abbrev pub without_resource : ResourceAddrView → StateView → StateView
without_resource addr s = record s { resources = without_one (λ r. r.addr) addr_cmp addr s.resources }

-- there is capacity for n more resources
abbrev pub HasRoomForResources : ℕ → State → Type 0
HasRoomForResources n s = vec_len s.resources + n ≤ vec_capacity s.resources
