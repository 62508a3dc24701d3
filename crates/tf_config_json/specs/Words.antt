-- The words of the format: the meaning of each property, and which texts are types and addresses.
use Rattle.std.specs.Prelude.{ℕ, Bool, not, ◌&&◌, ◌==◌, if◌then◌else◌, List, [], ◌∷◌, Option, Some, None, codes}
use Rattle.std.specs.List.{list_any, before_first, after_first}
use Rattle.std.specs.Str.{bytes_eq}
use Rattle.tf_config_address.specs.ResourceAddr.{ResourceAddrView}
use Rattle.tf_config_address.specs.Name.{is_name}
use Rattle.tf_config_json.specs.declared.words.BlockProperty.{BlockProperty}
use Rattle.tf_config_json.specs.declared.words.BlockProperty.TheVariants as in_block
use Rattle.tf_config_json.specs.declared.words.LifecycleProperty.{LifecycleProperty}
use Rattle.tf_config_json.specs.declared.words.LifecycleProperty.TheVariants as in_lifecycle
use Rattle.tf_config_json.specs.declared.words.LocalsProperty.{LocalsProperty}
use Rattle.tf_config_json.specs.declared.words.LocalsProperty.TheVariants as in_locals
use Rattle.tf_config_json.specs.declared.words.OutputProperty.{OutputProperty}
use Rattle.tf_config_json.specs.declared.words.OutputProperty.TheVariants as in_output
use Rattle.tf_config_json.specs.declared.words.Section.{Section}
use Rattle.tf_config_json.specs.declared.words.Section.TheVariants as sections
use Rattle.tf_config_json.specs.declared.words.VariableProperty.{VariableProperty}
use Rattle.tf_config_json.specs.declared.words.VariableProperty.TheVariants as in_variable
use Rattle.tf_config_data.specs.declared.variable.Element.TheVariants as elements
use Rattle.tf_config_data.specs.declared.variable.VariableType.{VariableType}
use Rattle.tf_config_data.specs.declared.variable.VariableType.TheVariants as types

-- the name of a comment, which is ignored
abbrev pub is_comment : List ℕ → Bool
is_comment name = bytes_eq name (codes "//")

-- the meaning of a name among words: that of the first word that it equals, or `other`
abbrev pub among : {P : Type 0} → List (List ℕ × P) → P → List ℕ → P
among [] other name = other
among (word ∷ words) other name = if bytes_eq name word.0 then word.1 else among words other name

-- the meaning of a property at the top
abbrev pub section_of : List ℕ → Section
section_of name =
    if is_comment name then sections.Comment
    else among ((codes "variable", sections.Variables) ∷ (codes "locals", sections.Locals) ∷ (codes "output", sections.Outputs) ∷ (codes "resource", sections.Resources) ∷ []) sections.Other name

-- the meaning of a property in the body of a variable
abbrev pub variable_property_of : List ℕ → VariableProperty
variable_property_of name =
    if is_comment name then in_variable.Comment
    else among ((codes "type", in_variable.Type) ∷ (codes "default", in_variable.Default) ∷ (codes "description", in_variable.Description) ∷ []) in_variable.Other name

-- the meaning of a property of `locals`
abbrev pub locals_property_of : List ℕ → LocalsProperty
locals_property_of name = if is_comment name then in_locals.Comment else in_locals.Local

-- the meaning of a property in the body of an output
abbrev pub output_property_of : List ℕ → OutputProperty
output_property_of name =
    if is_comment name then in_output.Comment
    else among ((codes "value", in_output.Value) ∷ (codes "description", in_output.Description) ∷ []) in_output.Other name

-- the names that a resource body may not have
abbrev pub refused_properties : List (List ℕ)
refused_properties = codes "connection" ∷ codes "provider" ∷ codes "provisioner" ∷ []

-- the meaning of a property in a resource body
abbrev pub block_property_of : List ℕ → BlockProperty
block_property_of name =
    if is_comment name then in_block.Comment
    else among ((codes "count", in_block.Count) ∷ (codes "for_each", in_block.ForEach)
    ∷ (codes "depends_on", in_block.DependsOn) ∷ (codes "lifecycle", in_block.Lifecycle) ∷ [])
    (if list_any (bytes_eq name) refused_properties then in_block.Refused else in_block.Argument) name

-- the meaning of a property of `lifecycle`
abbrev pub lifecycle_property_of : List ℕ → LifecycleProperty
lifecycle_property_of name =
    if is_comment name then in_lifecycle.Comment
    else among ((codes "create_before_destroy", in_lifecycle.CreateBeforeDestroy)
    ∷ (codes "prevent_destroy", in_lifecycle.PreventDestroy) ∷ (codes "ignore_changes", in_lifecycle.IgnoreChanges) ∷ []) in_lifecycle.Other name

-- the names that can't be resource types, because expressions give them another meaning
abbrev pub reserved_types : List (List ℕ)
reserved_types =
    codes "var" ∷ codes "local" ∷ codes "each" ∷ codes "count" ∷ codes "data" ∷ codes "module" ∷ codes "path" ∷ codes "self" ∷ codes "terraform"
    ∷ codes "true" ∷ codes "false" ∷ codes "null" ∷ []

-- a name that may be a resource type
abbrev pub is_type_name : List ℕ → Bool
is_type_name text = is_name text && not (list_any (bytes_eq text) reserved_types)

-- the resource of a type and a name, or `None` if these aren't a resource type and a name
abbrev pub addr_of_names : List ℕ → List ℕ → Option ResourceAddrView
addr_of_names type_name name = if is_type_name type_name && is_name name then Some (record { type_name = type_name; name = name }) else None

-- the resource whose address a text is: a resource type, a dot, a name; `None` if the text isn't an address
abbrev pub addr_in : List ℕ → Option ResourceAddrView
addr_in text = if list_any (λ c. c == 46) text then addr_of_names (before_first (λ c. c == 46) text) (after_first (λ c. c == 46) text) else None

-- the type that a text names, or `None` if it doesn't name a type
abbrev pub type_in : List ℕ → Option VariableType
type_in text =
    if bytes_eq text (codes "any") then Some (types.One elements.Any)
    else (if bytes_eq text (codes "string") then Some (types.One elements.String)
    else (if bytes_eq text (codes "number") then Some (types.One elements.Number)
    else (if bytes_eq text (codes "bool") then Some (types.One elements.Bool)
    else (if bytes_eq text (codes "list(any)") then Some (types.List elements.Any)
    else (if bytes_eq text (codes "list(string)") then Some (types.List elements.String)
    else (if bytes_eq text (codes "list(number)") then Some (types.List elements.Number)
    else (if bytes_eq text (codes "list(bool)") then Some (types.List elements.Bool)
    else (if bytes_eq text (codes "map(any)") then Some (types.Map elements.Any)
    else (if bytes_eq text (codes "map(string)") then Some (types.Map elements.String)
    else (if bytes_eq text (codes "map(number)") then Some (types.Map elements.Number)
    else (if bytes_eq text (codes "map(bool)") then Some (types.Map elements.Bool) else None)))))))))))
