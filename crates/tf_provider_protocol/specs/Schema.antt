-- Schemas: which attributes a type's objects have, and the rule of each.
use Rattle.std.specs.Prelude.{◌≡◌, ℕ, ◌≤◌, ◌+◌, Bool, true, false, ◌||◌, ◌&&◌, nat_lt, List, [], ◌∷◌, find, length, Option, Some, None, if◌then◌else◌, not, codes, string_bytes}
use Rattle.std.specs.List.{list_all, list_any}
use Rattle.std.specs.Ordering.{nat_cmp, is_lt}
use Rattle.std.specs.Cmp.Lexicographic.{slice_cmp}
use Rattle.std.specs.Str.{bytes_eq}
use Rattle.tf_config_address.specs.Name.{is_name}
use Rattle.tf_provider_protocol.specs.declared.schema.Attribute.{Attribute}
use Rattle.tf_provider_protocol.specs.declared.schema.Kind.{Kind}
use Rattle.tf_provider_protocol.specs.declared.schema.Mode.{Mode}
use Rattle.tf_provider_protocol.specs.declared.schema.SchemaFault.{SchemaFault}
use Rattle.tf_provider_protocol.specs.declared.schema.SchemaFault.TheVariants.{TooMany, NotAName, Reserved, Repeated}

-- an attribute: its name, which values it takes, who sets it, and whether a change of it replaces the object
pub record AttributeView : Type 0 where
  pub name : List ℕ
  pub kind : Kind
  pub mode : Mode
  pub force_new : Bool

-- a type's schema: its version, and its attributes in byte order of their names
pub record SchemaView : Type 0 where
  pub version : ℕ
  pub attributes : List AttributeView

-- the view of an attribute of the code
abbrev pub attribute_of : Attribute → AttributeView
attribute_of a = record { name = string_bytes a.name; kind = a.kind; mode = a.mode; force_new = a.force_new }

-- one text comes before another in byte order
abbrev pub is_below : List ℕ → List ℕ → Bool
is_below a b = is_lt (slice_cmp nat_cmp a b)

-- attributes in byte order with another inserted in its place
abbrev pub placed : List AttributeView → AttributeView → List AttributeView
placed [] a = a ∷ []
placed (b ∷ bs) a = if is_below b.name a.name then b ∷ placed bs a else a ∷ (b ∷ bs)

-- the number of attributes before a name
abbrev pub place_in : List AttributeView → List ℕ → ℕ
place_in [] name = 0
place_in (b ∷ bs) name = if is_below b.name name then place_in bs name + 1 else 0

-- attributes in byte order of their names
abbrev pub in_order : List AttributeView → List AttributeView
in_order [] = []
in_order (a ∷ rest) = placed (in_order rest) a

-- each name comes before all those after it, in byte order
abbrev pub ascends : List AttributeView → Bool
ascends [] = true
ascends (a ∷ rest) = list_all (λ b. is_below a.name b.name) rest && ascends rest

-- names that are reserved in a resource's body, so that no attribute can have them
abbrev pub is_reserved : List ℕ → Bool
is_reserved name =
    bytes_eq name (codes "provider") || bytes_eq name (codes "provisioner") || bytes_eq name (codes "connection") || bytes_eq name (codes "count") || bytes_eq name (codes "for_each") || bytes_eq name (codes "depends_on") || bytes_eq name (codes "lifecycle")

-- an attribute has this name
abbrev pub name_is_in : List AttributeView → List ℕ → Bool
name_is_in attributes name = list_any (λ a. bytes_eq a.name name) attributes

-- no two attributes have one name
abbrev pub names_differ : List AttributeView → Bool
names_differ [] = true
names_differ (a ∷ rest) = not (name_is_in rest a.name) && names_differ rest

-- The first fault of a schema's attributes: more than 200 of them, then a name that isn't a name, then a reserved
-- name, then a repeated one.
abbrev pub fault_of : List AttributeView → Option SchemaFault
fault_of attributes =
    if nat_lt 200 (length attributes) then Some TooMany
    else (if not (list_all (λ a. is_name a.name) attributes) then Some NotAName
    else (if list_any (λ a. is_reserved a.name) attributes then Some Reserved
    else (if not (names_differ attributes) then Some Repeated
    else None)))

-- the attribute of a name
abbrev pub attribute_named : List ℕ → SchemaView → Option AttributeView
attribute_named name s = find (λ a. bytes_eq a.name name) s.attributes

-- What a schema keeps: at most 200 attributes in byte order of their names, which all differ. Each name is a name,
-- and not reserved.
pub record IsSchema (s : SchemaView) : Type 0 where
  pub few : length s.attributes ≤ 200
  pub named : list_all (λ a. is_name a.name) s.attributes ≡ true
  pub free : list_any (λ a. is_reserved a.name) s.attributes ≡ false
  pub ascending : ascends s.attributes ≡ true
