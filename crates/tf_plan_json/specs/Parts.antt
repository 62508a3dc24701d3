-- The known part of an object, and which parts are unknown, as JSON.
use Rattle.std.specs.Prelude.{ℕ, Bool, true, false, if◌then◌else◌, List, [], ◌∷◌}
use Rattle.serde_json.specs.Data as json
use Rattle.tf_value_data.specs.Tree.{Tree, null, boolean, whole, text, list, map, set, unknown, Items, no_items, item, Entries, no_entries, entry, is_unknown}
use Rattle.tf_value_json.specs.Json.{value_data}

-- the known part of a value: an unknown entry of a map is left out, and any other unknown part is null
abbrev mutual
  pub known_data : Tree → json.Data
  known_data (list ts) = json.array (known_items ts)
  known_data (map es) = json.object (known_members es)
  known_data t = value_data t

  pub known_items : Items → json.Items
  known_items no_items = json.no_items
  known_items (item t ts) = json.item (known_data t) (known_items ts)

  pub known_members : Entries → json.Members
  known_members no_entries = json.no_members
  known_members (entry k t es) = if is_unknown t then known_members es else json.member k (known_data t) (known_members es)

-- a known scalar
abbrev pub is_leaf : Tree → Bool
is_leaf null = true
is_leaf (boolean b) = true
is_leaf (whole z) = true
is_leaf (text s) = true
is_leaf _ = false

-- false for each text
abbrev pub false_items : List (List ℕ) → json.Items
false_items [] = json.no_items
false_items (s ∷ ss) = json.item (json.boolean false) (false_items ss)

-- which parts of a value are unknown: true for each, and false for each known scalar, which in a map is left out
abbrev mutual
  pub unknown_data : Tree → json.Data
  unknown_data (list ts) = json.array (unknown_items ts)
  unknown_data (map es) = json.object (unknown_members es)
  unknown_data (set ss) = json.array (false_items ss)
  unknown_data unknown = json.boolean true
  unknown_data _ = json.boolean false

  pub unknown_items : Items → json.Items
  unknown_items no_items = json.no_items
  unknown_items (item t ts) = json.item (unknown_data t) (unknown_items ts)

  pub unknown_members : Entries → json.Members
  unknown_members no_entries = json.no_members
  unknown_members (entry k t es) = if is_leaf t then unknown_members es else json.member k (unknown_data t) (unknown_members es)
