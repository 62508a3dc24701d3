-- The object that an update asks for: it keeps the prior values that aren't to be changed.
use Rattle.std.specs.Prelude.{ℕ, Bool, true, false, ◌||◌, if◌then◌else◌, List}
use Rattle.std.specs.List.{list_any}
use Rattle.std.specs.Option.{option_map_or, unwrap_or}
use Rattle.std.specs.Str.{bytes_eq}
use Rattle.tf_provider_protocol.specs.Schema.{SchemaView, attribute_named}
use Rattle.tf_provider_protocol.specs.declared.schema.Mode.{Mode}
use Rattle.tf_provider_protocol.specs.declared.schema.Mode.TheVariants.{Required, Optional, Computed}
use Rattle.tf_value_data.specs.Tree.{Tree, Entries, no_entries, entry, map, part_at}

abbrev pub is_computed : Mode → Bool
is_computed Computed = true
is_computed Required = false
is_computed Optional = false

-- a name is that of a computed attribute
abbrev pub names_computed : SchemaView → List ℕ → Bool
names_computed schema name = option_map_or (λ a. is_computed a.mode) (attribute_named name schema) false

-- a name is among those whose changes are ignored
abbrev pub is_ignored : List (List ℕ) → List ℕ → Bool
is_ignored ignored name = list_any (λ other. bytes_eq other name) ignored

-- An attribute keeps its value if the provider sets it, or if its changes are ignored.
abbrev pub is_kept : SchemaView → List (List ℕ) → List ℕ → Bool
is_kept schema ignored name = names_computed schema name || is_ignored ignored name

-- an attribute's value if there is a prior object: the prior value if it is kept, else the planned one
abbrev pub kept_value : SchemaView → List (List ℕ) → Tree → List ℕ → Tree → Tree
kept_value schema ignored prior name planned = if is_kept schema ignored name then unwrap_or (part_at name prior) planned else planned

abbrev pub kept_entries : SchemaView → List (List ℕ) → Tree → Entries → Entries
kept_entries schema ignored prior no_entries = no_entries
kept_entries schema ignored prior (entry name planned es) = entry name (kept_value schema ignored prior name planned) (kept_entries schema ignored prior es)

-- The planned object of an instance with the prior value of each attribute that is kept. An update asks for it.
abbrev pub kept_object : SchemaView → List (List ℕ) → Tree → Tree → Tree
kept_object schema ignored prior (map es) = map (kept_entries schema ignored prior es)
kept_object schema ignored prior t = t
