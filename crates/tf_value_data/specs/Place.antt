-- A place within a value.
use Rattle.std.specs.Prelude.{ℕ, List}
use Rattle.tf_value_data.specs.Tree.{Tree, list, map, Items, no_items, item, Entries, no_entries, entry}

-- A place within a value: the whole of it, a place within an item of a list, or a place within the value at a key of
-- a map, with the items or entries before and after it.
pub data Place : Type 0 where
  whole_value : Place
  in_item : Items → Place → Items → Place
  at_key : Entries → List ℕ → Place → Entries → Place

-- the items of a list: those before, one, and those after
abbrev pub items_around : Items → Tree → Items → Items
items_around no_items t after = item t after
items_around (item u before) t after = item u (items_around before t after)

-- the entries of a map: those before, one, and those after
abbrev pub entries_around : Entries → List ℕ → Tree → Entries → Entries
entries_around no_entries k t after = entry k t after
entries_around (entry l u before) k t after = entry l u (entries_around before k t after)

-- the value with a part at a place
abbrev pub with_part : Place → Tree → Tree
with_part whole_value t = t
with_part (in_item before p after) t = list (items_around before (with_part p t) after)
with_part (at_key before k p after) t = map (entries_around before k (with_part p t) after)
