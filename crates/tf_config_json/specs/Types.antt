-- The values that a type takes, and their conversion to it.
use Rattle.std.specs.Prelude.{ℕ, Bool, true, false, ◌&&◌, is_some, if◌then◌else◌, Option, Some, None, List}
use Rattle.tf_config_data.specs.declared.variable.Element.{Element}
use Rattle.tf_config_data.specs.declared.variable.Element.TheVariants as elements
use Rattle.tf_config_data.specs.declared.variable.VariableType.{VariableType}
use Rattle.tf_config_data.specs.declared.variable.VariableType.TheVariants as types
use Rattle.tf_value_data.specs.Scalar.{scalar_text}
use Rattle.tf_value_data.specs.Tree.{Tree, null, boolean, whole, text, list, map, Items, no_items, item, Entries, no_entries, entry}

-- Null fits every type. `any` takes every value, `string` what has a text (texts, whole numbers and truth values),
-- `number` whole numbers, `bool` truth values.
abbrev pub takes : Element → Tree → Bool
takes elements.Any t = true
takes elements.String null = true
takes elements.String t = is_some (scalar_text t)
takes elements.Number null = true
takes elements.Number (whole z) = true
takes elements.Number t = false
takes elements.Bool null = true
takes elements.Bool (boolean b) = true
takes elements.Bool t = false

abbrev pub takes_items : Element → Items → Bool
takes_items e no_items = true
takes_items e (item t ts) = takes e t && takes_items e ts

abbrev pub takes_entries : Element → Entries → Bool
takes_entries e no_entries = true
takes_entries e (entry name t es) = takes e t && takes_entries e es

-- A list fits `list(T)` if each of its values fits `T`, and a map fits `map(T)` in the same way.
abbrev pub fits : VariableType → Tree → Bool
fits (types.One e) t = takes e t
fits (types.List e) null = true
fits (types.List e) (list ts) = takes_items e ts
fits (types.List e) t = false
fits (types.Map e) null = true
fits (types.Map e) (map es) = takes_entries e es
fits (types.Map e) t = false

-- the text, if there is one, or else the value
abbrev pub text_or : Tree → Option (List ℕ) → Tree
text_or t None = t
text_or t (Some s) = text s

-- As a `string`, a value that has a text becomes that text. Every other type leaves a value as it is.
abbrev pub element_as : Element → Tree → Tree
element_as elements.String t = text_or t (scalar_text t)
element_as e t = t

abbrev pub items_as : Element → Items → Items
items_as e no_items = no_items
items_as e (item t ts) = item (element_as e t) (items_as e ts)

abbrev pub entries_as : Element → Entries → Entries
entries_as e no_entries = no_entries
entries_as e (entry name t es) = entry name (element_as e t) (entries_as e es)

-- a value converted to a type, inside lists and maps too
abbrev pub value_as : VariableType → Tree → Tree
value_as (types.One e) t = element_as e t
value_as (types.List e) (list ts) = list (items_as e ts)
value_as (types.List e) t = t
value_as (types.Map e) (map es) = map (entries_as e es)
value_as (types.Map e) t = t

-- a value converted to a type, or `None` if the value doesn't fit
abbrev pub fitted : VariableType → Tree → Option Tree
fitted value_type t = if fits value_type t then Some (value_as value_type t) else None
