-- Buffers of outputs.
use Rattle.std.specs.Prelude.{◌≡◌, List, [], ◌∷◌, string_bytes}
use Rattle.std.specs.List.{AllByRecursion}
use Rattle.tf_config_data.specs.Names.{NameView, places}
use Rattle.tf_walk_outputs.specs.declared.output_buffers.OutputBuffers.{OutputBuffers}
use Rattle.tf_expr_syntax.specs.ExprNames.{named_by}
use Rattle.tf_expr_syntax.specs.ExprTree.{Entries, no_entries, entry, tree_of}

-- the outputs that buffers are for
abbrev pub outputs_in : List OutputBuffers → Entries
outputs_in [] = no_entries
outputs_in (room ∷ rooms) = entry (string_bytes room.name) (tree_of room.expr.now) (outputs_in rooms)

-- a buffer has the indexes of the names in its output's expression
abbrev pub HasPlaces : List NameView → OutputBuffers → Type 0
HasPlaces names room = room.places.items ≡ places names (named_by (tree_of room.expr.now))

abbrev pub HavePlaces : List NameView → List OutputBuffers → Type 0
HavePlaces names rooms = AllByRecursion (HasPlaces names) rooms
