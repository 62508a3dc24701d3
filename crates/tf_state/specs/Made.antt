-- Records, resources and outputs that were read, as plain data.
use Rattle.std.specs.Prelude.{List, map, string_bytes}
use Rattle.tf_config_address.specs.ResourceAddr.{addr_of}
use Rattle.tf_config_address.specs.declared.addr.ResourceAddr.{ResourceAddr}
use Rattle.tf_value_data.specs.Tree.{tree_of}
use Rattle.tf_config_address.specs.ObjectId.{object_id_of}
use Rattle.tf_state_data.specs.Record.{RecordView, record_of}
use Rattle.tf_state_data.specs.Resource.{ResourceView}
use Rattle.tf_state.specs.declared.body.Body.{Body}
use Rattle.tf_state.specs.declared.body.Held.{Held}
use Rattle.tf_config_address.specs.declared.object_id.ObjectId.{ObjectId}

-- a record made of an id and a body
abbrev pub record_made : ObjectId → Body → RecordView
record_made p b =
    record {
      id = object_id_of p;
      attributes = tree_of b.attributes.value;
      schema_version = b.schema_version;
      tainted = b.tainted;
      dependencies = map string_bytes b.dependencies.keys;
      create_before_destroy = b.create_before_destroy;
    }

-- the records made of their ids and bodies
abbrev pub records_made : List (ObjectId × Body) → List RecordView
records_made es = map (λ e. record_made e.0 e.1) es

-- a resource made of an address, a provider and records
abbrev pub resource_made : ResourceAddr → Held → ResourceView
resource_made l h = record { addr = addr_of l; provider = string_bytes h.provider; records = map record_of h.records.items }

-- the resources made of their addresses and contents
abbrev pub resources_made : List (ResourceAddr × Held) → List ResourceView
resources_made es = map (λ e. resource_made e.0 e.1) es
