-- A record of one object, as plain data.
use Rattle.std.specs.Prelude.{ℕ, Bool, List, map, string_bytes}
use Rattle.tf_config_address.specs.ObjectId.{ObjectIdView, object_id_of}
use Rattle.tf_state_data.specs.declared.record.Record.{Record}
use Rattle.tf_value_data.specs.Tree.{Tree, tree_of}

-- one object of a resource, with the addresses of the resources that it depends on
pub record RecordView : Type 0 where
  pub id : ObjectIdView
  pub attributes : Tree
  pub schema_version : ℕ
  pub tainted : Bool
  pub dependencies : List (List ℕ)
  pub create_before_destroy : Bool

abbrev pub record_of : Record → RecordView
record_of r =
    record {
      id = object_id_of r.id;
      attributes = tree_of r.attributes.value;
      schema_version = r.schema_version;
      tainted = r.tainted;
      dependencies = map string_bytes r.dependencies.keys;
      create_before_destroy = r.create_before_destroy;
    }
