-- The dependencies that a state has stored, by number.
use Rattle.std.specs.Prelude.{◌≡◌, ℕ, Bool, ◌==◌, if◌then◌else◌, Option, Some, None, option_and_then, List, [], map, Contains}
use Rattle.std.specs.List.{after_first, before_first, filter_map, flat_map, list_any}
use Rattle.tf_config_address.specs.ResourceAddr.{ResourceAddrView}
use Rattle.tf_plan_order.specs.ResourceIndex.{ResourceRefView, place_in}
use Rattle.tf_state_data.specs.Record.{RecordView}
use Rattle.tf_state_data.specs.Resource.{ResourceView}

-- a dot
abbrev pub is_dot : ℕ → Bool
is_dot c = c == 46

-- The address that a text names: its type is the text before the first dot, and its name the text after it. A text
-- without a dot names no address.
abbrev pub named_address : List ℕ → Option ResourceAddrView
named_address text = if list_any is_dot text then Some (record { type_name = before_first is_dot text; name = after_first is_dot text }) else None

-- the place of the resource that a text names, or `None` if it is neither declared nor in the state
abbrev pub named_place : List ResourceRefView → List ℕ → Option ℕ
named_place all text = option_and_then (place_in all) (named_address text)

-- pairs of a place and the place of each resource that texts name, once for each text
abbrev pub text_pairs : List ResourceRefView → ℕ → List (List ℕ) → List (ℕ × ℕ)
text_pairs all place texts = map (λ other. (place, other)) (filter_map (named_place all) texts)

-- pairs of a place and the places of the dependencies in an object's record
abbrev pub record_pairs : List ResourceRefView → ℕ → RecordView → List (ℕ × ℕ)
record_pairs all place r = text_pairs all place r.dependencies

abbrev pub pairs_from : List ResourceRefView → List RecordView → Option ℕ → List (ℕ × ℕ)
pairs_from all records None = []
pairs_from all records (Some place) = flat_map (record_pairs all place) records

-- pairs of a resource's place and the places of the dependencies in the record of each of its objects, current or
-- deposed
abbrev pub resource_pairs : List ResourceRefView → ResourceView → List (ℕ × ℕ)
resource_pairs all r = pairs_from all r.records (place_in all r.addr)

-- The stored dependencies of all resources of a state: each pair has the place of a resource and the place of one that
-- an object of it depends on.
abbrev pub dependencies : List ResourceRefView → List ResourceView → List (ℕ × ℕ)
dependencies all resources = flat_map (resource_pairs all) resources

-- An object of the resource at a place is stored to depend on the resource at another: its record lists a text that
-- names the other.
pub record IsStoredDependency (all : List ResourceRefView) (resources : List ResourceView) (place other : ℕ) : Type 0 where
  pub resource : ResourceView
  pub of_state : Contains resources resource
  pub own_place : place_in all resource.addr ≡ Some place
  pub object : RecordView
  pub of_resource : Contains resource.records object
  pub text : List ℕ
  pub listed : Contains object.dependencies text
  pub other_place : named_place all text ≡ Some other
