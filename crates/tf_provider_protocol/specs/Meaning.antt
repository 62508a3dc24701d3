-- What a provider means, as plain data: what it answers to each request, and its schema of each type.
use Rattle.std.specs.Prelude.{ℕ, List, Option, Some, None, find, is_some, option_map, option_and_then, string_bytes}
use Rattle.tf_value_data.specs.Tree.{Tree, tree_of}
use Rattle.tf_provider_protocol.specs.Schema.{SchemaView}
use Rattle.tf_provider_protocol.specs.declared.request.Op.{Op}
use Rattle.tf_provider_protocol.specs.declared.request.Request.{Request}
use Rattle.tf_provider_protocol.specs.declared.request.Reply.{Reply}
use Rattle.tf_provider_protocol.specs.declared.request.Reply.TheVariants as reply

-- a request: what to do to which object
pub record Asked : Type 0 where
  pub op : Op
  pub address : List ℕ
  pub type_name : List ℕ
  pub deposed : Option (List ℕ)
  pub prior : Option Tree
  pub object : Option Tree

-- what a provider answers: the object, that it is gone, or that the request failed, with a message and the object
-- that exists, if there is one
pub data Answer : Type 0 where
  object : Tree → Answer
  gone : Answer
  failed : List ℕ → Option Tree → Answer

-- a provider: its answer to each request, and its schema of each type
pub record Meaning : Type 0 where
  pub answer : Asked → Answer
  pub schema_of : List ℕ → Option SchemaView

-- what a request asks
abbrev pub asked : Request → Asked
asked r =
    record {
      op = r.op;
      address = string_bytes r.address;
      type_name = string_bytes r.type_name;
      deposed = option_map string_bytes r.deposed;
      prior = option_map tree_of r.prior;
      object = option_map tree_of r.object;
    }

-- what a reply answers; out of memory answers nothing
abbrev pub answered : Reply → Option Answer
answered (reply.Object v) = Some (object (tree_of v))
answered reply.Gone = Some gone
answered (reply.Failed message v) = Some (failed (string_bytes message) (option_map tree_of v))
answered reply.NoMemory = None

-- the first provider of a list with a schema for a type
abbrev pub first_with : List ℕ → List Meaning → Option Meaning
first_with name ms = find (λ m. is_some (m.schema_of name)) ms

-- the schema of a type: that of the first provider of a list that has the type
abbrev pub schema_in : List ℕ → List Meaning → Option SchemaView
schema_in name ms = option_and_then (λ m. m.schema_of name) (first_with name ms)
