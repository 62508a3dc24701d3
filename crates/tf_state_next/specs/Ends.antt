-- The outcomes of an instance's actions, as plain data.
use Rattle.std.specs.Prelude.{ℕ, Bool, List, [], ◌∷◌, Option, Some, None, option_map, map, string_bytes}
use Rattle.tf_config_address.specs.ObjectId.{InstanceKeyView, instance_key_of}
use Rattle.tf_state_next.specs.declared.ends.RecordInput.{RecordInput}
use Rattle.tf_state_next.specs.declared.ends.Left.{Left}
use Rattle.tf_state_next.specs.declared.ends.Left.TheVariants as lefts
use Rattle.tf_state_next.specs.declared.ends.Saved.{Saved}
use Rattle.tf_value_data.specs.Tree.{Tree, tree_of}

-- an object that a create or an update saved, and whether it is tainted
abbrev pub SavedView : Type 0
SavedView = Tree × Bool

-- What a destroy left of an object: it is gone, it is there with these attributes, or what is known of it stays.
pub data LeftView : Type 0 where
  gone : LeftView
  changed : Tree → LeftView
  unchanged : LeftView

-- The outcome of the create or the update of an instance. Either no object was wanted, or one was wanted and nothing
-- was planned for it, or the action saved nothing, or it saved an object.
pub data ApplyResultView : Type 0 where
  unwanted : ApplyResultView
  unplanned : ApplyResultView
  nothing : ApplyResultView
  saved : SavedView → ApplyResultView

-- the outcome of a create or an update that was planned: it saved an object, or nothing
abbrev pub as_applied : Option SavedView → ApplyResultView
as_applied None = nothing
as_applied (Some s) = saved s

-- The outcomes of all actions of an instance: of the create or the update; of the destroy of the object that was
-- current, if it was planned; and of the destroys of deposed objects, by their keys.
pub record InstanceResultView : Type 0 where
  pub applied : ApplyResultView
  pub destroyed : Option LeftView
  pub deposed : List (List ℕ × LeftView)

-- The input for the record of an object: its instance, the version of its schema, the addresses of the resources that
-- its resource needs, and whether that resource is late. The key that the old object gets if it becomes deposed is
-- given only in a replace that creates first.
pub record RecordInputView : Type 0 where
  pub key : InstanceKeyView
  pub schema_version : ℕ
  pub dependencies : List (List ℕ)
  pub create_before_destroy : Bool
  pub deposed_key : Option (List ℕ)

-- ---- the code's types as plain data

abbrev pub saved_of : Saved → SavedView
saved_of s = (tree_of s.attributes.value, s.tainted)

abbrev pub left_of : Left → LeftView
left_of lefts.Gone = gone
left_of (lefts.Changed o) = changed (tree_of o.value)
left_of lefts.Unchanged = unchanged

abbrev pub record_input_of : RecordInput → RecordInputView
record_input_of g =
    record {
      key = instance_key_of g.key;
      schema_version = g.schema_version;
      dependencies = map string_bytes g.dependencies.keys;
      create_before_destroy = g.create_before_destroy;
      deposed_key = option_map string_bytes g.deposed_key;
    }

-- a create or an update alone
abbrev pub apply_of : ApplyResultView → InstanceResultView
apply_of applied = record { applied = applied; destroyed = None; deposed = [] }

-- a destroy alone, of the current object or of a deposed one
abbrev pub destroy_of : Option (List ℕ) → LeftView → InstanceResultView
destroy_of None left = record { applied = unwanted; destroyed = Some left; deposed = [] }
destroy_of (Some key) left = record { applied = unwanted; destroyed = None; deposed = (key, left) ∷ [] }
