-- The answers of the provider `sim`: the table of its two types.
use Rattle.std.specs.Prelude.{◌≡◌, ℕ, ◌++◌, Bool, true, false, ◌&&◌, nat_lt, ℤ, pos, List, [], ◌∷◌, Option, Some, None, if◌then◌else◌, codes, option_and_then}
use Rattle.std.specs.Option.{option_map_or}
use Rattle.std.specs.Str.{bytes_eq}
use Rattle.tf_value_data.specs.Tree.{Tree, text, whole, map, part_at, put}
use Rattle.tf_provider_protocol.specs.Schema.{AttributeView, SchemaView}
use Rattle.tf_provider_protocol.specs.Meaning.{Asked, Answer, Meaning, object, gone, failed}
use Rattle.tf_provider_protocol.specs.declared.request.Op.{Op}
use Rattle.tf_provider_protocol.specs.declared.request.Op.TheVariants.{Create}
use Rattle.tf_provider_protocol.specs.Verdict.{is_destroy}
use Rattle.tf_provider_protocol.specs.declared.schema.Kind.{Kind}
use Rattle.tf_provider_protocol.specs.declared.schema.Kind.TheVariants as kind
use Rattle.tf_provider_protocol.specs.declared.schema.Mode.{Mode}
use Rattle.tf_provider_protocol.specs.declared.schema.Mode.TheVariants.{Required, Optional, Computed}

abbrev pub attribute : List ℕ → Kind → Mode → Bool → AttributeView
attribute name kind mode force_new = record { name = name; kind = kind; mode = mode; force_new = force_new }

-- the id that both types have, which `sim` computes
abbrev pub id_attribute : AttributeView
id_attribute = attribute (codes "id") kind.String Computed false

-- the schema of `sim_net`
abbrev pub net_schema : SchemaView
net_schema = record { version = 0; attributes = attribute (codes "cidr") kind.String Required true ∷ id_attribute ∷ attribute (codes "tag") kind.String Optional false ∷ [] }

-- the schema of `sim_host`
abbrev pub host_schema : SchemaView
host_schema =
    record {
      version = 0;
      attributes = id_attribute ∷ attribute (codes "name") kind.String Required true ∷ attribute (codes "net") kind.String Optional false ∷ attribute (codes "size") kind.Number Optional false ∷ [];
    }

-- the text at a key, if the value there is a text
abbrev pub text_in : Option Tree → Option (List ℕ)
text_in (Some (text s)) = Some s
text_in _ = None

-- the value at a key is a certain text
abbrev pub has_text : List ℕ → List ℕ → Tree → Bool
has_text key value t = option_map_or (λ s. bytes_eq s value) (text_in (part_at key t)) false

-- the value is a whole number above 100
abbrev pub is_large : Option Tree → Bool
is_large (Some (whole (pos n))) = nat_lt 100 n
is_large _ = false

-- a map with a text set at a key; any other value unchanged
abbrev pub with_text : List ℕ → List ℕ → Tree → Tree
with_text key value (map es) = map (put key (text value) es)
with_text key value t = t

abbrev pub is_create : Op → Bool
is_create Create = true
is_create _ = false

-- an object with the tag `truth` in place of `lie`
abbrev pub with_truth : Tree → Tree
with_truth t = if has_text (codes "tag") (codes "lie") t then with_text (codes "tag") (codes "truth") t else t

abbrev pub malformed : Answer
malformed = failed (codes "malformed request") None

-- The answer to the create or update of a net: `refused` for a create with the cidr `bad`, and otherwise the object
-- with its id.
abbrev pub net_made : Op → Tree → Answer
net_made op t =
    option_map_or
    (λ cidr. if is_create op && bytes_eq cidr (codes "bad") then failed (codes "refused") None
    else object (with_text (codes "id") (codes "net-" ++ cidr) (with_truth t)))
    (text_in (part_at (codes "cidr") t))
    malformed

-- The answer to the create or update of a host: `size too large` if its size is above 100, and otherwise the object
-- with its id.
abbrev pub host_made : Tree → Answer
host_made t =
    option_map_or
    (λ name. if is_large (part_at (codes "size") t) then failed (codes "size too large") None
    else object (with_text (codes "id") (codes "host-" ++ name) t))
    (text_in (part_at (codes "name") t))
    malformed

-- The answer to the destroy of a net: `stuck` if its prior object's tag says so, and otherwise gone.
abbrev pub net_destroyed : Option Tree → Answer
net_destroyed prior =
    if option_map_or (has_text (codes "tag") (codes "stuck")) prior false then failed (codes "stuck") None else gone

abbrev pub net_answer : Asked → Answer
net_answer r = if is_destroy r.op then net_destroyed r.prior else option_map_or (net_made r.op) r.object malformed

abbrev pub host_answer : Asked → Answer
host_answer r = if is_destroy r.op then gone else option_map_or host_made r.object malformed

-- the answer of `sim` to a request
abbrev pub sim_answer : Asked → Answer
sim_answer r =
    if bytes_eq r.type_name (codes "sim_net") then net_answer r
    else (if bytes_eq r.type_name (codes "sim_host") then host_answer r else failed (codes "unknown type") None)

-- the schema that `sim` has for a type
abbrev pub sim_schema : List ℕ → Option SchemaView
sim_schema name =
    if bytes_eq name (codes "sim_net") then Some net_schema
    else (if bytes_eq name (codes "sim_host") then Some host_schema else None)

-- the meaning of `sim`
abbrev pub sim_meaning : Meaning
sim_meaning = record { answer = sim_answer; schema_of = sim_schema }
