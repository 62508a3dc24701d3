-- The text of a state, in Terraform's state file format, version 4.
use Rattle.std.specs.Prelude.{ℕ, Bool, true, false, List, [], ◌∷◌, Option, Some, None, option_map, codes, map as each}
use Rattle.serde_json.specs.Data.{Data, number as json_number, unsigned, string, boolean, array, object, Members, no_members, member, put}
use Rattle.serde_json.specs.View.{items_of}
use Rattle.tf_value_json.specs.Text.{text_of}
use Rattle.tf_value_json.specs.Json.{value_data}
use Rattle.tf_value_data.specs.Tree.{Tree, Entries, no_entries, entry}
use Rattle.tf_config_address.specs.ObjectId.{InstanceKeyView, single, number, name}
use Rattle.tf_state_data.specs.Record.{RecordView}
use Rattle.tf_state_data.specs.Resource.{ResourceView}
use Rattle.tf_state_data.specs.State.{StateView}
use Rattle.tf_state.specs.Arrangement.{with_records}
use Rattle.tf_state.specs.Types.{type_data}

-- the members with a value at a key, if there is a value
abbrev pub put_some : List ℕ → Option Data → Members → Members
put_some key None ms = ms
put_some key (Some d) ms = put key d ms

-- the key of an instance, if it has one
abbrev pub key_data : InstanceKeyView → Option Data
key_data single = None
key_data (number n) = Some (json_number (unsigned n))
key_data (name s) = Some (string s)

-- the status of an object, if it is tainted
abbrev pub status_data : Bool → Option Data
status_data true = Some (string (codes "tainted"))
status_data false = None

-- the flag, if it is set
abbrev pub flag_data : Bool → Option Data
flag_data true = Some (boolean true)
flag_data false = None

-- the dependencies, if there are any
abbrev pub dependencies_data : List (List ℕ) → Option Data
dependencies_data [] = None
dependencies_data (t ∷ ts) = Some (array (items_of (each string (t ∷ ts))))

-- an object with its attributes, their schema's version, and each other part that has a value
abbrev pub record_data : RecordView → Data
record_data r =
    object (put (codes "attributes") (value_data r.attributes) (put (codes "schema_version") (json_number (unsigned r.schema_version)) (put_some (codes "create_before_destroy") (flag_data r.create_before_destroy)
    (put_some (codes "dependencies") (dependencies_data r.dependencies) (put_some (codes "deposed") (option_map string r.id.deposed) (put_some (codes "index_key") (key_data r.id.key)
    (put_some (codes "status") (status_data r.tainted) no_members)))))))

-- a resource that the engine manages, with its objects
abbrev pub resource_data : ResourceView → Data
resource_data r =
    object (put (codes "instances") (array (items_of (each record_data r.records))) (put (codes "mode") (string (codes "managed")) (put (codes "name") (string r.addr.name) (put (codes "provider") (string r.provider) (put (codes "type") (string r.addr.type_name) no_members)))))

-- an output: its value, and the type of the value
abbrev pub output_data : Tree → Data
output_data t = object (put (codes "type") (type_data t) (put (codes "value") (value_data t) no_members))

-- the outputs by name
abbrev pub outputs_data : Entries → Members
outputs_data no_entries = no_members
outputs_data (entry k t es) = member k (output_data t) (outputs_data es)

-- a state; a resource without records isn't written
abbrev pub state_data : StateView → Data
state_data s =
    object (put (codes "lineage") (string s.lineage) (put (codes "outputs") (object (outputs_data s.outputs)) (put (codes "resources") (array (items_of (each resource_data (with_records s.resources)))) (put (codes "serial") (json_number (unsigned s.serial)) (put (codes "terraform_version") (string s.terraform_version) (put (codes "version") (json_number (unsigned 4)) no_members))))))

-- the one text of a state
abbrev pub state_text : StateView → List ℕ
state_text s = text_of (state_data s)
