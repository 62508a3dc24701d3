-- Laws of operations, for all operands.
use Rattle.std.specs.Prelude.{ℕ, List, ◌≡◌, ◌↔◌, ◌⊎◌, true, Option, Some, None, Ok, ⊤}
use Rattle.std.specs.Cmp.Lexicographic.{slice_cmp}
use Rattle.std.specs.List.{Contains}
use Rattle.std.specs.List.Sorted.{IsStrictlySortedBy}
use Rattle.std.specs.Ordering.{nat_cmp}
use Rattle.tf_expr_syntax.specs.declared.operator.Operator.{Operator}
use Rattle.tf_expr_syntax.specs.declared.tree.Prefix.{Prefix}
use Rattle.tf_value_data.specs.Tree.{Tree, text, list, set, Items, no_items, item, Entries, no_entries, entry, get}
use Rattle.tf_value_data.specs.Known.{known, known_items, known_entries}
use Rattle.tf_value_data.specs.Refinement.{Refines, RefinesItems, RefinesEntries}
use Rattle.tf_value_data.specs.Measure.{IsWithinLimits}
use Rattle.tf_expr_syntax.specs.declared.function.Function.{Function}
use Rattle.tf_expr_operators.specs.Answer.{list_value, map_value}
use Rattle.tf_expr_operators.specs.Operators.{unary_value, binary_value}
use Rattle.tf_expr_operators.specs.Parts.{attribute_value, index_value}
use Rattle.tf_expr_operators.specs.Joining.{joined_value}
use Rattle.tf_expr_operators.specs.Functions.{laid_over, call_value, toset_value}

-- If the operand of `!` or `-` refines to another one, its result refines to the other one's.
abbrev pub UnaryGrows : Type 0
UnaryGrows = (op : Prefix) (t u v w : Tree) → Refines t u → unary_value op t ≡ Ok v → unary_value op u ≡ Ok w → Refines v w

-- If the operands of an operator refine to others, their result refines to that of the others.
abbrev pub BinaryGrows : Type 0
BinaryGrows = (op : Operator) (a b c d v w : Tree) → Refines a b → Refines c d → binary_value op a c ≡ Ok v → binary_value op b d ≡ Ok w → Refines v w

-- If a value refines to another one, its part at a name refines to the other one's.
abbrev pub AttributeGrows : Type 0
AttributeGrows = (t u : Tree) (name : List ℕ) (v w : Tree) → Refines t u → attribute_value t name ≡ Ok v → attribute_value u name ≡ Ok w → Refines v w

-- If a value and an index refine to others, their part refines to that of the others.
abbrev pub IndexGrows : Type 0
IndexGrows = (a b c d v w : Tree) → Refines a b → Refines c d → index_value a c ≡ Ok v → index_value b d ≡ Ok w → Refines v w

-- If the items of a list refine to others, the list refines to the list of the others.
abbrev pub ListGrows : Type 0
ListGrows = (ts us : Items) (v w : Tree) → RefinesItems ts us → list_value ts ≡ Ok v → list_value us ≡ Ok w → Refines v w

-- If the entries of a map refine to others, the map refines to the map of the others.
abbrev pub MapGrows : Type 0
MapGrows = (es fs : Entries) (v w : Tree) → RefinesEntries es fs → map_value es ≡ Ok v → map_value fs ≡ Ok w → Refines v w

-- If values refine to others, their joined text refines to that of the others.
abbrev pub JoinedGrows : Type 0
JoinedGrows = (ts us : Items) (v w : Tree) → RefinesItems ts us → joined_value ts ≡ Ok v → joined_value us ≡ Ok w → Refines v w

-- If the arguments of a function refine to others, their result refines to that of the others.
abbrev pub CallGrows : Type 0
CallGrows = (f : Function) (ts us : Items) (v w : Tree) → RefinesItems ts us → call_value f ts ≡ Ok v → call_value f us ≡ Ok w → Refines v w

-- Values are within the limits if each of them is.
abbrev pub AreWithinLimits : Items → Type 0
AreWithinLimits no_items = ⊤
AreWithinLimits (item t ts) = IsWithinLimits t × AreWithinLimits ts

-- The result of an operator is within the limits.
abbrev pub OperatorsAreWithinLimits : Type 0
OperatorsAreWithinLimits =
    ((op : Prefix) (t v : Tree) → unary_value op t ≡ Ok v → IsWithinLimits v) × ((op : Operator) (t u v : Tree) → binary_value op t u ≡ Ok v → IsWithinLimits v)

-- The part at a name or an index of a value within the limits is within the limits.
abbrev pub PartsAreWithinLimits : Type 0
PartsAreWithinLimits =
    ((t : Tree) (name : List ℕ) (v : Tree) → IsWithinLimits t → attribute_value t name ≡ Ok v → IsWithinLimits v)
    × ((t u v : Tree) → IsWithinLimits t → index_value t u ≡ Ok v → IsWithinLimits v)

-- A list, a map and a joined text are within the limits.
abbrev pub CollectionsAreWithinLimits : Type 0
CollectionsAreWithinLimits =
    ((ts : Items) (v : Tree) → list_value ts ≡ Ok v → IsWithinLimits v) × ((es : Entries) (v : Tree) → map_value es ≡ Ok v → IsWithinLimits v)
    × ((ts : Items) (v : Tree) → joined_value ts ≡ Ok v → IsWithinLimits v)

-- The result of a function for arguments within the limits is within the limits.
abbrev pub CallsAreWithinLimits : Type 0
CallsAreWithinLimits = (f : Function) (ts : Items) (v : Tree) → AreWithinLimits ts → call_value f ts ≡ Ok v → IsWithinLimits v

-- No two entries have the same key.
abbrev pub AreDistinct : Entries → Type 0
AreDistinct no_entries = ⊤
AreDistinct (entry k t es) = (get k es ≡ None) × AreDistinct es

-- the value at a key of the later one of two maps, or else of the earlier one
abbrev pub later_or_earlier : Option Tree → Option Tree → Option Tree
later_or_earlier (Some t) earlier = Some t
later_or_earlier None earlier = earlier

-- When a map is merged onto another, its values win at its keys, and the other's values remain at the other keys.
abbrev pub LaterMapWins : Type 0
LaterMapWins = (k : List ℕ) (base es : Entries) → AreDistinct es → get k (laid_over base es) ≡ later_or_earlier (get k es) (get k base)

-- a value is an item of a list
abbrev pub IsAmong : Tree → Items → Type 0
IsAmong t no_items = ⊥
IsAmong t (item u us) = (t ≡ u) ⊎ IsAmong t us

-- The set that `toset` returns for a list has exactly the list's texts, each once and in byte order.
abbrev pub SetHasTheTexts : Type 0
SetHasTheTexts = (ts : Items) (ss : List (List ℕ)) → toset_value (list ts) ≡ Ok (set ss)
    → IsStrictlySortedBy (slice_cmp nat_cmp) ss × ((s : List ℕ) → Contains ss s ↔ IsAmong (text s) ts)

-- The result of an operator for known operands is known.
abbrev pub OperatorsKeepKnown : Type 0
OperatorsKeepKnown =
    ((op : Prefix) (t v : Tree) → known t ≡ true → unary_value op t ≡ Ok v → known v ≡ true)
    × ((op : Operator) (t u v : Tree) → known t ≡ true → known u ≡ true → binary_value op t u ≡ Ok v → known v ≡ true)

-- The part at a name or a known index of a known value is known.
abbrev pub PartsKeepKnown : Type 0
PartsKeepKnown =
    ((t : Tree) (name : List ℕ) (v : Tree) → known t ≡ true → attribute_value t name ≡ Ok v → known v ≡ true)
    × ((t u v : Tree) → known t ≡ true → known u ≡ true → index_value t u ≡ Ok v → known v ≡ true)

-- A list, a map and a joined text of known values are known.
abbrev pub CollectionsKeepKnown : Type 0
CollectionsKeepKnown =
    ((ts : Items) (v : Tree) → known_items ts ≡ true → list_value ts ≡ Ok v → known v ≡ true)
    × ((es : Entries) (v : Tree) → known_entries es ≡ true → map_value es ≡ Ok v → known v ≡ true)
    × ((ts : Items) (v : Tree) → known_items ts ≡ true → joined_value ts ≡ Ok v → known v ≡ true)

-- The result of a function for known arguments is known.
abbrev pub CallsKeepKnown : Type 0
CallsKeepKnown = (f : Function) (ts : Items) (v : Tree) → known_items ts ≡ true → call_value f ts ≡ Ok v → known v ≡ true
