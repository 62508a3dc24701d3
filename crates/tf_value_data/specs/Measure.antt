-- How large a value is.
use Rattle.std.specs.Prelude.{ℕ, List, [], ◌∷◌, ◌+◌, ◌<◌, ◌≤◌, ◌⊎◌, max, length, Bool, ◌&&◌, nat_le}
use Rattle.tf_value_data.specs.Tree.{Tree, null, boolean, whole, text, list, map, set, unknown, Items, no_items, item, Entries, no_entries, entry}

-- the weights of a set's texts, each as a value
abbrev pub weight_of_texts : List (List ℕ) → ℕ
weight_of_texts [] = 0
weight_of_texts (s ∷ ss) = (1 + length s) + weight_of_texts ss

-- A value's weight is one for itself, the bytes of its texts and keys, and the weights of its parts.
abbrev mutual
  pub weight : Tree → ℕ
  weight null = 1
  weight (boolean b) = 1
  weight (whole z) = 1
  weight (text s) = 1 + length s
  weight (list ts) = 1 + weight_of_items ts
  weight (map es) = 1 + weight_of_entries es
  weight (set ss) = 1 + weight_of_texts ss
  weight unknown = 1

  pub weight_of_items : Items → ℕ
  weight_of_items no_items = 0
  weight_of_items (item t ts) = weight t + weight_of_items ts

  pub weight_of_entries : Entries → ℕ
  weight_of_entries no_entries = 0
  weight_of_entries (entry k t es) = (length k + weight t) + weight_of_entries es

-- A value's depth is how deep lists, maps and sets are nested in it.
abbrev mutual
  pub depth : Tree → ℕ
  depth null = 0
  depth (boolean b) = 0
  depth (whole z) = 0
  depth (text s) = 0
  depth (list ts) = 1 + depth_of_items ts
  depth (map es) = 1 + depth_of_entries es
  depth (set ss) = 1
  depth unknown = 0

  pub depth_of_items : Items → ℕ
  depth_of_items no_items = 0
  depth_of_items (item t ts) = max (depth t) (depth_of_items ts)

  pub depth_of_entries : Entries → ℕ
  depth_of_entries no_entries = 0
  depth_of_entries (entry k t es) = max (depth t) (depth_of_entries es)

-- the greatest weight of a value from outside
abbrev pub max_weight : ℕ
max_weight = 1000000

-- the greatest depth of a value from outside
abbrev pub max_depth : ℕ
max_depth = 32

-- A value is within the limits if neither its weight nor its depth is above the greatest.
abbrev pub IsWithinLimits : Tree → Type 0
IsWithinLimits t = (weight t ≤ max_weight) × (depth t ≤ max_depth)

-- `IsWithinLimits` as a test
abbrev pub is_within : Tree → Bool
is_within t = nat_le (weight t) max_weight && nat_le (depth t) max_depth

-- A value is too large if its weight or its depth is above the greatest.
abbrev pub IsTooLarge : Tree → Type 0
IsTooLarge t = (max_weight < weight t) ⊎ (max_depth < depth t)
