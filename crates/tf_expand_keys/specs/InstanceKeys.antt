-- The shape of a resource: the keys of its instances, and how its objects are collected.
use Rattle.std.specs.Prelude.{ℕ, List, [], ◌∷◌, map as each, Option, Some, option_map}
use Rattle.std.specs.List.{range_with_len}
use Rattle.std.specs.Option.{option_and_then}
use Rattle.tf_config_address.specs.ObjectId as keys
use Rattle.tf_config_address.specs.ObjectId.{InstanceKeyView}
use Rattle.tf_value_data.specs.Tree.{Tree, list, map, Entries, no_entries, items_of, put}

-- One object, a list of the given number of objects, or a map under these keys.
pub data InstanceKeysView : Type 0 where
  one : InstanceKeysView
  many : ℕ → InstanceKeysView
  named : List (List ℕ) → InstanceKeysView

-- the keys of the instances, in order
abbrev pub instance_keys : InstanceKeysView → List InstanceKeyView
instance_keys one = keys.single ∷ []
instance_keys (many n) = each keys.number (range_with_len 0 n)
instance_keys (named names) = each keys.name names

-- the object of each key, or `None` if a key has no object
abbrev pub objects_at : (InstanceKeyView → Option Tree) → List InstanceKeyView → Option (List Tree)
objects_at object [] = Some []
objects_at object (key ∷ others) = option_and_then (λ t. option_map (λ ts. t ∷ ts) (objects_at object others)) (object key)

-- the entries with each value put under its name
abbrev pub put_each : List (List ℕ) → List Tree → Entries → Entries
put_each [] ts es = es
put_each (name ∷ names) [] es = es
put_each (name ∷ names) (t ∷ ts) es = put_each names ts (put name t es)

abbrev pub list_of : List Tree → Tree
list_of ts = list (items_of ts)

abbrev pub map_under : List (List ℕ) → List Tree → Tree
map_under names ts = map (put_each names ts no_entries)

-- The value of a resource: the object of its only instance, the list of its instances' objects, or the map of them.
-- `None` if an instance has no object.
abbrev pub collected : InstanceKeysView → (InstanceKeyView → Option Tree) → Option Tree
collected one object = object keys.single
collected (many n) object = option_map list_of (objects_at object (instance_keys (many n)))
collected (named names) object = option_map (map_under names) (objects_at object (instance_keys (named names)))
