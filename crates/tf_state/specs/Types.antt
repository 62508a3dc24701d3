-- The type that a state names next to an output's value. It is computed from the value alone.
use Rattle.std.specs.Prelude.{ℕ, List, codes}
use Rattle.serde_json.specs.Data.{Data, string, array, object, Items as JsonItems, no_items as no_json_items, item as json_item, Members, no_members, member}
use Rattle.tf_value_data.specs.Tree.{Tree, null, boolean, whole, text, list, map, set, unknown, Items, no_items, item, Entries, no_entries, entry}

-- a pair of a word and a tree
abbrev pub pair_data : List ℕ → Data → Data
pair_data word d = array (json_item (string word) (json_item d no_json_items))

-- A text is a `string`, a whole number a `number`, a truth value a `bool`, null `dynamic`, a list a `tuple` of its
-- items' types, a map an `object` of its parts' types by key, and a set a `set` of `string`s.
abbrev mutual
  pub type_data : Tree → Data
  type_data null = string (codes "dynamic")
  type_data (boolean b) = string (codes "bool")
  type_data (whole z) = string (codes "number")
  type_data (text s) = string (codes "string")
  type_data (list ts) = pair_data (codes "tuple") (array (item_types ts))
  type_data (map es) = pair_data (codes "object") (object (entry_types es))
  type_data (set ss) = pair_data (codes "set") (string (codes "string"))
  type_data unknown = string (codes "dynamic")

  pub item_types : Items → JsonItems
  item_types no_items = no_json_items
  item_types (item t ts) = json_item (type_data t) (item_types ts)

  pub entry_types : Entries → Members
  entry_types no_entries = no_members
  entry_types (entry k t es) = member k (type_data t) (entry_types es)
