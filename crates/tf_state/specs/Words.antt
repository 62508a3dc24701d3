-- The properties of a state's objects, and the forms of the texts in it.
use Rattle.std.specs.Prelude.{ℕ, Bool, true, false, ◌&&◌, ◌||◌, ◌==◌, nat_le, List, [], ◌∷◌, length, codes}
use Rattle.std.specs.List.{list_all, list_any, before_first, after_first}
use Rattle.std.specs.Str.{bytes_eq}
use Rattle.serde_json.specs.Data.{Data, null, boolean, number, string, array, object, Members, no_members, member}
use Rattle.tf_config_address.specs.Name.{is_name}
use Rattle.tf_state.specs.declared.shape.Shape.{Shape}
use Rattle.tf_state.specs.declared.shape.Shape.TheVariants as shapes

-- the properties that an object of a state may have
abbrev pub properties_of : Shape → List (List ℕ)
properties_of shapes.State =
    codes "check_results" ∷ codes "lineage" ∷ codes "outputs" ∷ codes "resources" ∷ codes "serial" ∷ codes "terraform_version" ∷ codes "version" ∷ []
properties_of shapes.Output = codes "type" ∷ codes "value" ∷ []
properties_of shapes.Resource = codes "instances" ∷ codes "mode" ∷ codes "name" ∷ codes "provider" ∷ codes "type" ∷ []
properties_of shapes.Record =
    codes "attributes" ∷ codes "create_before_destroy" ∷ codes "dependencies" ∷ codes "deposed" ∷ codes "index_key" ∷ codes "schema_version"
    ∷ codes "sensitive_attributes" ∷ codes "status" ∷ []

-- each property is one of the given words
abbrev pub has_only : List (List ℕ) → Members → Bool
has_only words no_members = true
has_only words (member k d ms) = list_any (bytes_eq k) words && has_only words ms

-- the tree is an object that has only properties of its shape
abbrev pub is_shaped : Shape → Data → Bool
is_shaped shape (object ms) = has_only (properties_of shape) ms
is_shaped shape null = false
is_shaped shape (boolean b) = false
is_shaped shape (number n) = false
is_shaped shape (string s) = false
is_shaped shape (array ds) = false

-- a lower-case hex digit
abbrev pub is_hex : ℕ → Bool
is_hex c = (nat_le 48 c && nat_le c 57) || (nat_le 97 c && nat_le c 102)

-- the key of a deposed object: eight lower-case hex digits
abbrev pub is_deposed_key : List ℕ → Bool
is_deposed_key s = (length s == 8) && list_all is_hex s

-- the address of a resource: a name, a dot, a name
abbrev pub is_address : List ℕ → Bool
is_address s = list_any (λ c. c == 46) s && (is_name (before_first (λ c. c == 46) s) && is_name (after_first (λ c. c == 46) s))
