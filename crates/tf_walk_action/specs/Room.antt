-- The space that a text needs so that messages about a reply are written without taking memory.
use Rattle.std.specs.Prelude.{ℕ, ◌+◌, Bool, true, ◌&&◌, nat_le, length, Option, Some}
use Rattle.std.specs.List.{list_all}
use Rattle.tf_value_data.specs.Tree.{keys_of}
use Rattle.tf_value_data.specs.Tree as tree

-- `contradicts NAME` fits, for the name of each attribute
abbrev pub names_fit : ℕ → Option tree.Tree → Bool
names_fit capacity (Some (tree.map es)) = list_all (λ k. nat_le (12 + length k) capacity) (keys_of es)
names_fit capacity _ = true

-- each message about a reply to a request for this object fits
abbrev pub message_fits : ℕ → Option tree.Tree → Bool
message_fits capacity object = nat_le 15 capacity && names_fit capacity object
