-- The results of attributes and indices.
use Rattle.std.specs.Prelude.{ℕ, zero, suc, ℤ, pos, negsuc, List, Option, Some, None, Ok, Err}
use Rattle.tf_value_data.specs.Tree.{Tree, whole, text, list, map, unknown, Items, no_items, item, get}
use Rattle.tf_expr_syntax.specs.declared.fault.EvalFault.TheVariants.{WrongKind}
use Rattle.tf_expr_operators.specs.Answer.{Answer, present_value}

-- the item at an index, counted from 0
abbrev pub item_at : ℕ → Items → Option Tree
item_at n no_items = None
item_at zero (item t ts) = Some t
item_at (suc n) (item t ts) = item_at n ts

-- the item at a whole number; `None` before the first
abbrev pub item_at_whole : ℤ → Items → Option Tree
item_at_whole (pos n) ts = item_at n ts
item_at_whole (negsuc n) ts = None

-- `v.name` is the value at the name of a map.
abbrev pub attribute_value : Tree → List ℕ → Answer
attribute_value unknown name = Ok unknown
attribute_value (map es) name = present_value (get name es)
attribute_value _ name = Err WrongKind

-- `v[i]` is the value at a text of a map, or at a whole number, from 0 on, of a list.
abbrev pub index_value : Tree → Tree → Answer
index_value unknown i = Ok unknown
index_value t unknown = Ok unknown
index_value (map es) (text k) = present_value (get k es)
index_value (list ts) (whole z) = present_value (item_at_whole z ts)
index_value _ _ = Err WrongKind
