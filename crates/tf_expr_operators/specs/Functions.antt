-- The results of functions.
use Rattle.std.specs.Prelude.{ℕ, ◌+◌, pos, ◌&&◌, if◌then◌else◌, List, [], length, is_some, Option, Some, None, Ok, Err}
use Rattle.std.specs.BTreeSet.{insert_key}
use Rattle.std.specs.Cmp.Lexicographic.{slice_cmp}
use Rattle.std.specs.Option.{option_map}
use Rattle.std.specs.Ordering.{nat_cmp}
use Rattle.tf_value_data.specs.Known.{known}
use Rattle.tf_value_data.specs.Tree.{Tree, text, list, map, set, unknown, Items, no_items, item, Entries, no_entries, entry, put}
use Rattle.tf_expr_syntax.specs.declared.fault.EvalFault.TheVariants.{WrongKind, Arity}
use Rattle.tf_expr_syntax.specs.declared.function.Function.{Function}
use Rattle.tf_expr_syntax.specs.declared.function.Function.TheVariants.{Length, Keys, Values, Merge, Concat, Join, ToSet}
use Rattle.tf_expr_operators.specs.Answer.{Answer, whole_value, list_value, map_value, any_unknown, items_behind}
use Rattle.tf_expr_operators.specs.Joining.{text_of, joined_value}

-- the number of items, and of entries
abbrev pub items_count : Items → ℕ
items_count no_items = 0
items_count (item t ts) = 1 + items_count ts

abbrev pub entries_count : Entries → ℕ
entries_count no_entries = 0
entries_count (entry k t es) = 1 + entries_count es

-- the keys, as texts
abbrev pub key_items : Entries → Items
key_items no_entries = no_items
key_items (entry k t es) = item (text k) (key_items es)

-- the values at the keys
abbrev pub value_items : Entries → Items
value_items no_entries = no_items
value_items (entry k t es) = item t (value_items es)

-- `length` counts the items of a list, the entries of a map, and the texts of a set.
abbrev pub length_value : Tree → Answer
length_value unknown = Ok unknown
length_value (list ts) = whole_value (pos (items_count ts))
length_value (map es) = whole_value (pos (entries_count es))
length_value (set ss) = whole_value (pos (length ss))
length_value _ = Err WrongKind

-- `keys` lists the keys of a map, in byte order.
abbrev pub keys_value : Tree → Answer
keys_value unknown = Ok unknown
keys_value (map es) = Ok (list (key_items es))
keys_value _ = Err WrongKind

-- `values` lists the values of a map, in the order of their keys.
abbrev pub values_value : Tree → Answer
values_value unknown = Ok unknown
values_value (map es) = Ok (list (value_items es))
values_value _ = Err WrongKind

-- entries with others put over them, one after another
abbrev pub laid_over : Entries → Entries → Entries
laid_over base no_entries = base
laid_over base (entry k t es) = laid_over (put k t base) es

-- entries with those of maps put over them, one map after another; `None` if a value is no map
abbrev pub merged_onto : Entries → Items → Option Entries
merged_onto base no_items = Some base
merged_onto base (item (map es) ts) = merged_onto (laid_over base es) ts
merged_onto base (item _ ts) = None

-- the map of the entries; a fault if a value was of another kind
abbrev pub entries_value : Option Entries → Answer
entries_value None = Err WrongKind
entries_value (Some es) = map_value es

-- `merge` has all keys of its maps. If several have a key, the last one's value wins.
abbrev pub merge_value : Items → Answer
merge_value ts = if any_unknown ts then Ok unknown else entries_value (merged_onto no_entries ts)

-- the items of lists, one list after another; `None` if a value is no list
abbrev pub concatenated : Items → Option Items
concatenated no_items = Some no_items
concatenated (item (list us) ts) = option_map (items_behind us) (concatenated ts)
concatenated (item _ ts) = None

-- the list of the items; a fault if a value was of another kind
abbrev pub items_value : Option Items → Answer
items_value None = Err WrongKind
items_value (Some ts) = list_value ts

-- `concat` joins lists.
abbrev pub concat_value : Items → Answer
concat_value ts = if any_unknown ts then Ok unknown else items_value (concatenated ts)

-- items with one before each of them
abbrev pub each_after : Tree → Items → Items
each_after s no_items = no_items
each_after s (item t ts) = item s (item t (each_after s ts))

-- items with one between each two
abbrev pub spaced : Tree → Items → Items
spaced s no_items = no_items
spaced s (item t ts) = item t (each_after s ts)

-- the items of a list, joined, with a separator between each two; the separator must be of a kind that has a text
abbrev pub spaced_value : Tree → Tree → Answer
spaced_value s (list ts) = if is_some (text_of s) then joined_value (spaced s ts) else Err WrongKind
spaced_value s _ = Err WrongKind

-- `join` joins the items of a list, with a separator between each two. If a part of the separator or of the list is
-- unknown, at any depth, so is the result.
abbrev pub join_value : Tree → Tree → Answer
join_value s t = if known s && known t then spaced_value s t else Ok unknown

-- texts with those of a list put in, each once and in byte order; `None` if a value is no text
abbrev pub texts_with : List (List ℕ) → Items → Option (List (List ℕ))
texts_with ss no_items = Some ss
texts_with ss (item (text s) ts) = texts_with (insert_key (slice_cmp nat_cmp) ss s) ts
texts_with ss (item _ ts) = None

-- the set of the texts; a fault if a value was of another kind
abbrev pub texts_value : Option (List (List ℕ)) → Answer
texts_value None = Err WrongKind
texts_value (Some ss) = Ok (set ss)

-- the set of a list's texts, and a set unchanged
abbrev pub set_value : Tree → Answer
set_value (list ts) = texts_value (texts_with [] ts)
set_value (set ss) = Ok (set ss)
set_value _ = Err WrongKind

-- `toset` returns the set of a list of texts, and a set unchanged. If a part of its argument is unknown, at any
-- depth, so is the result.
abbrev pub toset_value : Tree → Answer
toset_value t = if known t then set_value t else Ok unknown

-- the result of a function for its arguments
abbrev pub call_value : Function → Items → Answer
call_value Length (item t no_items) = length_value t
call_value Keys (item t no_items) = keys_value t
call_value Values (item t no_items) = values_value t
call_value Merge (item t ts) = merge_value (item t ts)
call_value Concat (item t ts) = concat_value (item t ts)
call_value Join (item s (item t no_items)) = join_value s t
call_value ToSet (item t no_items) = toset_value t
call_value _ _ = Err Arity
