-- The attributes in which an object differs from the prior one.
use Rattle.std.specs.Prelude.{ℕ, Bool, true, false, ◌||◌, not, if◌then◌else◌, List, [], ◌∷◌, filter, Option, Some, None}
use Rattle.std.specs.Option.{option_map_or}
use Rattle.tf_provider_protocol.specs.Schema.{SchemaView, attribute_named}
use Rattle.tf_value_data.specs.Known.{known}
use Rattle.tf_value_data.specs.Tree.{Tree, Entries, no_entries, entry, map, part_at, same}

-- A value differs from the prior one if the two aren't equal, or if a part of it isn't known yet.
abbrev pub differs : Option Tree → Tree → Bool
differs None new = true
differs (Some old) new = not (same old new) || not (known new)

abbrev pub differing_entries : Tree → Entries → List (List ℕ)
differing_entries prior no_entries = []
differing_entries prior (entry name t es) = if differs (part_at name prior) t then name ∷ differing_entries prior es else differing_entries prior es

-- the names of the attributes in which an object differs from the prior one, in byte order
abbrev pub differing : Tree → Tree → List (List ℕ)
differing prior (map es) = differing_entries prior es
differing prior _ = []

-- a name is that of an attribute whose change replaces the object
abbrev pub forces_new : SchemaView → List ℕ → Bool
forces_new schema name = option_map_or (λ a. a.force_new) (attribute_named name schema) false

-- the names among these whose changes replace the object
abbrev pub forcing : SchemaView → List (List ℕ) → List (List ℕ)
forcing schema names = filter (forces_new schema) names
