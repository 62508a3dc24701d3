-- States that can be read back from their texts.
use Rattle.std.specs.Prelude.{◌≡◌, ℕ, ◌^◌, ◌<◌, true, List, [], ◌∷◌, Option, Some, None, ⊤}
use Rattle.std.specs.Cmp.Lexicographic.{slice_cmp}
use Rattle.std.specs.List.{AllByRecursion}
use Rattle.std.specs.Ordering.{nat_cmp}
use Rattle.std.specs.declared.cmp.Ordering.TheVariants.{Greater}
use Rattle.tf_config_address.specs.Name.{is_name}
use Rattle.tf_value_data.specs.Stored.{IsTable}
use Rattle.tf_value_data.specs.Tree.{Tree, map}
use Rattle.tf_state_data.specs.Addresses.{AreByAddress}
use Rattle.tf_config_address.specs.ObjectId.{InstanceKeyView, single, number, name}
use Rattle.tf_state_data.specs.Ids.{AreById}
use Rattle.tf_state.specs.Arrangement.{is_some_record}
use Rattle.tf_state_data.specs.Record.{RecordView}
use Rattle.tf_state_data.specs.Resource.{ResourceView}
use Rattle.tf_state_data.specs.State.{StateView}
use Rattle.tf_state.specs.Words.{is_address, is_deposed_key}

-- attributes are values by name, each of which may be stored
abbrev pub IsAttributes : Tree → Type 0
IsAttributes (map es) = IsTable es
IsAttributes _ = ⊥

-- the position of an instance is below 2^63
abbrev pub IsKey : InstanceKeyView → Type 0
IsKey single = ⊤
IsKey (number n) = n < 2 ^ 63
IsKey (name s) = ⊤

-- the key of a deposed object is eight lower-case hex digits
abbrev pub IsDeposed : Option (List ℕ) → Type 0
IsDeposed None = ⊤
IsDeposed (Some s) = is_deposed_key s ≡ true

-- addresses, each after those before it in byte order
abbrev pub AreAddresses : List (List ℕ) → Type 0
AreAddresses [] = ⊤
AreAddresses (t ∷ ts) = (is_address t ≡ true) × AllByRecursion (λ u. slice_cmp nat_cmp u t ≡ Greater) ts × AreAddresses ts

pub record IsRecord (r : RecordView) : Type 0 where
  pub key : IsKey r.id.key
  pub deposed : IsDeposed r.id.deposed
  pub attributes : IsAttributes r.attributes
  pub version : r.schema_version < 2 ^ 32
  pub dependencies : AreAddresses r.dependencies

-- records in the order of their ids, no two with the same one
abbrev pub AreRecords : List RecordView → Type 0
AreRecords rs = AllByRecursion IsRecord rs × AreById rs

-- a resource, which may have no records
pub record IsResource (r : ResourceView) : Type 0 where
  pub type_name : is_name r.addr.type_name ≡ true
  pub name : is_name r.addr.name ≡ true
  pub records : AreRecords r.records

-- a resource with a record
abbrev pub IsPresent : ResourceView → Type 0
IsPresent r = IsResource r × (is_some_record r.records ≡ true)

-- resources with records, in the order of their addresses, no two at the same one
abbrev pub AreResources : List ResourceView → Type 0
AreResources rs = AllByRecursion IsPresent rs × AreByAddress rs

-- A state is valid if a text can hold its parts: names, keys and addresses of their forms, values that may be stored,
-- and records and resources in order, without duplicates, each resource with a record.
pub record IsValid (s : StateView) : Type 0 where
  pub serial : s.serial < 2 ^ 32
  pub outputs : IsTable s.outputs
  pub resources : AreResources s.resources
