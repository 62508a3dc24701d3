-- The types of providers that are other programs.
use Rattle.std.specs.Prelude.{Bool, false, ℕ, List, Option, find, option_map, string_bytes}
use Rattle.std.specs.Option.{option_map_or}
use Rattle.std.specs.Str.{bytes_eq}
use Rattle.tf_provider_protocol.specs.Meaning.{Meaning, gone}
use Rattle.tf_provider_protocol.specs.Schema.{SchemaView}
use Rattle.tf_provider_remote.specs.declared.types.RemoteType.{RemoteType}

-- a type: its name, its schema, and whether its provider says that a request does no harm if it is made twice
pub record TypeView : Type 0 where
  pub name : List ℕ
  pub schema : SchemaView
  pub idempotent : Bool

abbrev pub type_of : RemoteType → TypeView
type_of t = record { name = string_bytes t.name; schema = t.schema; idempotent = t.idempotent }

-- a request of this type does no harm if it is made twice, by the first type of the name
abbrev pub is_idempotent : List ℕ → List TypeView → Bool
is_idempotent name ts = option_map_or (λ t. t.idempotent) (find (λ t. bytes_eq t.name name) ts) false

-- The schema of a type is that of the first one with its name. What such a provider answers is known from a log alone, so this
-- answer is used only in an apply that nobody carries out.
abbrev pub remote_meaning : List TypeView → Meaning
remote_meaning ts = record {
  answer = λ r. gone;
  schema_of = λ name. option_map (λ t. t.schema) (find (λ t. bytes_eq t.name name) ts);
}
