-- The check that a prior object fits the schema of its type.
use Rattle.std.specs.Prelude.{ℕ, Bool, false, if◌then◌else◌, ◌==◌, List, [], ◌∷◌, ◌++◌, is_some, Option, Some, None, option_map}
use Rattle.std.specs.Option.{option_map_or, option_or}
use Rattle.tf_provider_protocol.specs.Schema.{AttributeView, SchemaView, attribute_named}
use Rattle.tf_provider_protocol.specs.Verdict.{is_allowed}
use Rattle.tf_state_data.specs.Record.{RecordView}
use Rattle.tf_value_data.specs.Tree.{Tree, Entries, no_entries, entry, map, get}
use Rattle.tf_plan_decision.specs.Names.{first_name}

-- How a prior object doesn't fit: as a whole, or at an attribute.
pub data PriorFaultView : Type 0 where
  as_a_whole : PriorFaultView
  at_attribute : List ℕ → PriorFaultView

-- an object has an attribute, and its value is null if that is allowed, or of the attribute's kind
abbrev pub has_allowed : Entries → AttributeView → Bool
has_allowed es a = option_map_or (is_allowed a) (get a.name es) false

-- the names of the attributes that an object doesn't have, or whose values aren't allowed
abbrev pub misfits : List AttributeView → Entries → List (List ℕ)
misfits [] es = []
misfits (a ∷ others) es = if has_allowed es a then misfits others es else a.name ∷ misfits others es

-- the names in an object that no attribute has
abbrev pub strays : SchemaView → Entries → List (List ℕ)
strays schema no_entries = []
strays schema (entry name t es) = if is_some (attribute_named name schema) then strays schema es else name ∷ strays schema es

-- the names at which entries don't fit a schema
abbrev pub all_misfits : SchemaView → Entries → List (List ℕ)
all_misfits schema es = misfits schema.attributes es ++ strays schema es

-- A prior object fits if it is a map that was written with the schema's version, has exactly the schema's attributes,
-- and each is null (if it isn't required) or of its kind, without conversion. A fault of the whole object comes first,
-- then the name that is first in byte order, of the schema's and the object's together.
abbrev pub prior_fault : SchemaView → ℕ → Tree → Option PriorFaultView
prior_fault schema version (map es) =
    if version == schema.version then option_map at_attribute (first_name (all_misfits schema es)) else Some as_a_whole
prior_fault schema version _ = Some as_a_whole

-- the fault of a record's object
abbrev pub record_fault : SchemaView → RecordView → Option PriorFaultView
record_fault schema r = prior_fault schema r.schema_version r.attributes

-- the first fault of objects, in the order of their records
abbrev pub first_unfit : SchemaView → List RecordView → Option PriorFaultView
first_unfit schema [] = None
first_unfit schema (r ∷ records) = option_or (record_fault schema r) (first_unfit schema records)
