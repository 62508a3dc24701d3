-- The parts of values that are unknown, and those that are sets.
use Rattle.std.specs.Prelude.{Bool, true, ◌&&◌, if◌then◌else◌}
use Rattle.tf_value_data.specs.Tree.{Tree, null, list, map, set, unknown, Items, no_items, item, Entries, no_entries, entry, text_items}

-- Whether a value has unknown parts only if `unknowns`, and sets only if `sets`.
abbrev mutual
  pub has_only : Bool → Bool → Tree → Bool
  has_only unknowns sets (list ts) = items_have_only unknowns sets ts
  has_only unknowns sets (map es) = entries_have_only unknowns sets es
  has_only unknowns sets (set ss) = sets
  has_only unknowns sets unknown = unknowns
  has_only unknowns sets _ = true

  pub items_have_only : Bool → Bool → Items → Bool
  items_have_only unknowns sets no_items = true
  items_have_only unknowns sets (item t ts) = has_only unknowns sets t && items_have_only unknowns sets ts

  pub entries_have_only : Bool → Bool → Entries → Bool
  entries_have_only unknowns sets no_entries = true
  entries_have_only unknowns sets (entry k t es) = has_only unknowns sets t && entries_have_only unknowns sets es

-- A value with null in place of each unknown part if `nulls`, and with the list of its texts, in byte order, in place
-- of each set if `lists`.
abbrev mutual
  pub rewritten : Bool → Bool → Tree → Tree
  rewritten nulls lists (list ts) = list (items_rewritten nulls lists ts)
  rewritten nulls lists (map es) = map (entries_rewritten nulls lists es)
  rewritten nulls lists (set ss) = if lists then list (text_items ss) else set ss
  rewritten nulls lists unknown = if nulls then null else unknown
  rewritten nulls lists t = t

  pub items_rewritten : Bool → Bool → Items → Items
  items_rewritten nulls lists no_items = no_items
  items_rewritten nulls lists (item t ts) = item (rewritten nulls lists t) (items_rewritten nulls lists ts)

  pub entries_rewritten : Bool → Bool → Entries → Entries
  entries_rewritten nulls lists no_entries = no_entries
  entries_rewritten nulls lists (entry k t es) = entry k (rewritten nulls lists t) (entries_rewritten nulls lists es)
