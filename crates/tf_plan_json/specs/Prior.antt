-- The prior state of a plan, in the shape of Terraform's state representation. Members are in byte order of their names.
use Rattle.std.specs.Prelude.{ℕ, Bool, false, ◌||◌, ◌+◌, if◌then◌else◌, List, [], ◌∷◌, Option, Some, None, is_some, option_map, codes, map as each}
use Rattle.std.specs.List.{flat_map}
use Rattle.serde_json.specs.Data.{Data, boolean, number as json_number, unsigned, string, array, object, Members, no_members, member}
use Rattle.serde_json.specs.View.{items_of}
use Rattle.tf_config_address.specs.ResourceAddr.{ResourceAddrView}
use Rattle.tf_plan_data.specs.Address.{address_text}
use Rattle.tf_plan_json.specs.Members.{some_member, members_by}
use Rattle.tf_plan_json.specs.Reasons.{provider_source}
use Rattle.tf_state.specs.Sending.{one_if_some}
use Rattle.tf_state.specs.Text.{dependencies_data, flag_data, key_data}
use Rattle.tf_state_data.specs.Record.{RecordView}
use Rattle.tf_state_data.specs.Resource.{ResourceView}
use Rattle.tf_state_data.specs.State.{StateView}
use Rattle.tf_value_data.specs.Tree.{Tree, Entries, no_entries, entry}
use Rattle.tf_value_json.specs.Json.{value_data}

-- ---- an object of the state

-- an object with the texts of its address and of its provider; no part of it is sensitive
abbrev pub stored_members : List ℕ → List ℕ → ResourceAddrView → RecordView → Members
stored_members address provider addr r =
    member (codes "address") (string address) (some_member (codes "depends_on") (dependencies_data r.dependencies) (some_member (codes "deposed_key") (option_map string r.id.deposed) (some_member (codes "index") (key_data r.id.key)
    (member (codes "mode") (string (codes "managed")) (member (codes "name") (string addr.name) (member (codes "provider_name") (string provider) (member (codes "schema_version") (json_number (unsigned r.schema_version))
    (member (codes "sensitive_values") (object no_members) (some_member (codes "tainted") (flag_data r.tainted) (member (codes "type") (string addr.type_name) (member (codes "values") (value_data r.attributes) no_members)))))))))))

abbrev pub stored_data : List ℕ → List ℕ → ResourceAddrView → RecordView → Data
stored_data address provider addr r = object (stored_members address provider addr r)

-- how many members an object has: always eight, and each other one that has a value
abbrev pub stored_count : RecordView → ℕ
stored_count r = 8 + one_if_some (dependencies_data r.dependencies) + one_if_some (option_map string r.id.deposed) + one_if_some (key_data r.id.key) + one_if_some (flag_data r.tainted)

abbrev pub record_data : ResourceAddrView → RecordView → Data
record_data addr r = stored_data (address_text addr r.id.key) (provider_source addr.type_name) addr r

-- the objects of a resource, current and deposed
abbrev pub objects_of : ResourceView → List Data
objects_of r = each (record_data r.addr) r.records

-- ---- the state

abbrev pub output_data : Tree → Data
output_data t = object (member (codes "sensitive") (boolean false) (member (codes "value") (value_data t) no_members))

-- the outputs by name, if there are any
abbrev pub outputs_data : Entries → Option Data
outputs_data no_entries = None
outputs_data (entry k t es) = Some (object (members_by output_data (entry k t es)))

-- the objects, if there are any
abbrev pub objects_data : List Data → Option Data
objects_data [] = None
objects_data (d ∷ ds) = Some (array (items_of (d ∷ ds)))

abbrev pub module_data : List Data → Data
module_data ds = object (some_member (codes "resources") (objects_data ds) no_members)

-- the values of a state: its outputs and its objects, which are all in the root module
abbrev pub values_data : Entries → List Data → Data
values_data outputs ds = object (some_member (codes "outputs") (outputs_data outputs) (member (codes "root_module") (module_data ds) no_members))

abbrev pub values_count : Entries → ℕ
values_count outputs = 1 + one_if_some (outputs_data outputs)

abbrev pub prior_data : Entries → List Data → Data
prior_data outputs ds = object (member (codes "format_version") (string (codes "1.0")) (member (codes "terraform_version") (string (codes "1.0.0")) (member (codes "values") (values_data outputs ds) no_members)))

-- there is an output or an object
abbrev pub is_something : Entries → List Data → Bool
is_something outputs ds = is_some (outputs_data outputs) || is_some (objects_data ds)

-- a state of outputs and of objects, if there is one
abbrev pub some_prior : Entries → List Data → Option Data
some_prior outputs ds = if is_something outputs ds then Some (prior_data outputs ds) else None

-- a state: each of its objects once, in address order
abbrev pub prior_of : StateView → Option Data
prior_of s = some_prior s.outputs (flat_map objects_of s.resources)
