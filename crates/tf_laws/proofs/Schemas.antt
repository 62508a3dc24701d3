-- The schemas of providers.
use Rattle.std.proofs.Common.{◌≡◌, ℕ, Bool, true, false, if◌then◌else◌, List, [], ◌∷◌, Option, Some, None, refl, subst, arith}
use Rattle.std.specs.Prelude.{codes, is_some, option_and_then}
use Rattle.std.specs.Str.{bytes_eq}
use Rattle.tf_provider_protocol.specs.Meaning.{Meaning, first_with, schema_in}
use Rattle.tf_provider_protocol.specs.Schema.{IsSchema, SchemaView}
use Rattle.tf_provider_local.specs.Answers.{file_meaning}
use Rattle.tf_provider_local.specs.Schema.{file_schema}
use Rattle.tf_provider_sim.specs.Table.{host_schema, net_schema, sim_meaning}
use Rattle.tf_laws.specs.ReapplyTexts.{HasSchemas, HaveSchemas}

schema_at : (b : Bool) (m : Meaning) (ms : List Meaning) (name : List ℕ) (schema : SchemaView) → HasSchemas m → (schema_in name ms ≡ Some schema → IsSchema schema)
    → option_and_then (λ p. p.schema_of name) (if b then Some m else first_with name ms) ≡ Some schema → IsSchema schema
schema_at true m ms name schema h later e = h name schema e
schema_at false m ms name schema h later e = later e

-- what the first provider that has a type has for it is a schema
pub schemas_in : (ms : List Meaning) → HaveSchemas ms → (name : List ℕ) (schema : SchemaView) → schema_in name ms ≡ Some schema → IsSchema schema
schemas_in [] h name schema e = absurd (cc)
schemas_in (m ∷ ms) h name schema e = schema_at (is_some (m.schema_of name)) m ms name schema h.0 (schemas_in ms h.1 name schema) e

-- ---- `sim`

net_is : IsSchema net_schema
net_is = record { few = omega arith; named = refl; free = refl; ascending = refl }

host_is : IsSchema host_schema
host_is = record { few = omega arith; named = refl; free = refl; ascending = refl }

same_schema : (s t : SchemaView) → ◌≡◌ {A = Option SchemaView} (Some s) (Some t) → s ≡ t
same_schema s t e = cc

sim_at : (b c : Bool) (schema : SchemaView) → (if b then Some net_schema else (if c then Some host_schema else None)) ≡ Some schema → IsSchema schema
sim_at true c schema e = subst IsSchema (same_schema net_schema schema e) net_is
sim_at false true schema e = subst IsSchema (same_schema host_schema schema e) host_is
sim_at false false schema e = absurd (cc)

pub sim_has_schemas : HasSchemas sim_meaning
sim_has_schemas name schema e = sim_at (bytes_eq name (codes "sim_net")) (bytes_eq name (codes "sim_host")) schema e

-- ---- `local_file`

file_is : IsSchema file_schema
file_is = record { few = omega arith; named = refl; free = refl; ascending = refl }

file_at : (b : Bool) (schema : SchemaView) → (if b then Some file_schema else None) ≡ Some schema → IsSchema schema
file_at true schema e = subst IsSchema (same_schema file_schema schema e) file_is
file_at false schema e = absurd (cc)

pub local_file_has_schemas : HasSchemas file_meaning
local_file_has_schemas name schema e = file_at (bytes_eq name (codes "local_file")) schema e
