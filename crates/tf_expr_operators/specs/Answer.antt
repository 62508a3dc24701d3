-- The answers of operations: a value or one fault.
use Rattle.std.specs.Prelude.{◌≡◌, ◌^◌, ◌&&◌, ◌||◌, Bool, true, false, ℤ, pos, negsuc, nat_lt, nat_le, if◌then◌else◌, Result, Ok, Err, Option, Some, None, ⊤}
use Rattle.std.specs.Borrow.{Bor}
use Rattle.tf_value_data.specs.Tree.{Tree, whole, list, map, unknown, Items, no_items, item, Entries, tree_of}
use Rattle.tf_value_data.specs.Measure.{weight, depth, max_weight, max_depth}
use Rattle.tf_value_data.specs.declared.value.Value.{Value}
use Rattle.tf_expr_syntax.specs.declared.fault.EvalFault.{EvalFault}
use Rattle.tf_expr_syntax.specs.declared.fault.EvalFault.TheVariants.{Overflow, Missing, TooLarge, OutOfMemory}

-- a value or one fault
abbrev pub Answer : Type 0
Answer = Result Tree EvalFault

-- A call returns exactly this answer: the value, or the same fault.
abbrev pub Answers : Answer → Result Value EvalFault → Type 0
Answers a (Ok v) = a ≡ Ok (tree_of v)
Answers a (Err e) = a ≡ Err e

-- A call returns exactly this answer, or memory ran out.
abbrev pub Gives : Answer → Result Value EvalFault → Type 0
Gives a (Ok v) = a ≡ Ok (tree_of v)
Gives a (Err OutOfMemory) = ⊤
Gives a (Err e) = a ≡ Err e

-- A call borrows exactly this answer: a reference to the value, or the same fault.
abbrev pub Shows : Answer → Result (Bor Value) EvalFault → Type 0
Shows a (Ok r) = a ≡ Ok (tree_of r.now)
Shows a (Err e) = a ≡ Err e

-- A value above the greatest weight or depth is a fault.
abbrev pub limited : Tree → Answer
limited t = if nat_le (weight t) max_weight && nat_le (depth t) max_depth then Ok t else Err TooLarge

-- A whole number is one of 64 bits with a sign, otherwise a fault.
abbrev pub whole_value : ℤ → Answer
whole_value (pos n) = if nat_lt n (2 ^ 63) then Ok (whole (pos n)) else Err Overflow
whole_value (negsuc n) = if nat_lt n (2 ^ 63) then Ok (whole (negsuc n)) else Err Overflow

-- A missing value is a fault.
abbrev pub present_value : Option Tree → Answer
present_value None = Err Missing
present_value (Some t) = Ok t

-- whether a value is unknown as a whole
abbrev pub is_unknown : Tree → Bool
is_unknown unknown = true
is_unknown _ = false

-- whether one of several values is unknown as a whole
abbrev pub any_unknown : Items → Bool
any_unknown no_items = false
any_unknown (item t ts) = is_unknown t || any_unknown ts

-- A list of values, in order, is a value within the limits; a part may be unknown.
abbrev pub list_value : Items → Answer
list_value ts = limited (list ts)

-- A map of values, in byte order of the keys, is a value within the limits; a part may be unknown.
abbrev pub map_value : Entries → Answer
map_value es = limited (map es)

-- items, then others
abbrev pub items_behind : Items → Items → Items
items_behind no_items us = us
items_behind (item t ts) us = item t (items_behind ts us)

-- items, then one more
abbrev pub item_behind : Items → Tree → Items
item_behind ts t = items_behind ts (item t no_items)
