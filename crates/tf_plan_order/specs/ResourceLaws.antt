-- What holds of the numbers of a configuration's names and of a state's resources, and of the stored dependencies.
use Rattle.std.specs.Prelude.{◌≡◌, ◌+◌, ◌<◌, ◌≤◌, ◌↔◌, ℕ, true, false, Some, None, option_map, List, length, map, slice_get, Contains}
use Rattle.std.specs.List.{list_any}
use Rattle.tf_config_address.specs.ResourceAddr.{ResourceAddrView, addr_text}
use Rattle.tf_config_data.specs.Names.{NameView}
use Rattle.tf_plan_order.specs.Dependencies.{IsStoredDependency, dependencies, is_dot, named_address}
use Rattle.tf_plan_order.specs.ResourceIndex.{ResourceRefView, a_name, an_orphan, address_of, has_block, numbered, orphans, place_in}
use Rattle.tf_state_data.specs.Addresses.{AreByAddress}
use Rattle.tf_state_data.specs.Resource.{ResourceView}

-- Each resource of the state has a place.
abbrev pub EachHasAPlace : Type 0
EachHasAPlace =
    (names : List NameView) (resources : List ResourceView) (r : ResourceView) → Contains resources r → (n : ℕ) × (place_in (numbered names resources) r.addr ≡ Some n)

-- The resource at the place of an address has that address.
abbrev pub PlacesAreTrue : Type 0
PlacesAreTrue =
    (all : List ResourceRefView) (addr : ResourceAddrView) (n : ℕ) → place_in all addr ≡ Some n → (x : ResourceRefView) × (slice_get all n ≡ Some x) × (address_of x ≡ Some addr)

-- Two different addresses have different places.
abbrev pub PlacesDiffer : Type 0
PlacesDiffer = (all : List ResourceRefView) (a b : ResourceAddrView) (n : ℕ) → place_in all a ≡ Some n → place_in all b ≡ Some n → a ≡ b

-- no two resources are at one address
abbrev pub AreApart : List ResourceRefView → Type 0
AreApart all =
    (i j : ℕ) (x y : ResourceRefView) (addr : ResourceAddrView) → slice_get all i ≡ Some x → slice_get all j ≡ Some y → address_of x ≡ Some addr → address_of y ≡ Some addr
    → i ≡ j

-- If no two blocks have the same address, no two resources of both together have the same address. So no other resource
-- has the address of a resource of the state.
abbrev pub ResourcesStayApart : Type 0
ResourcesStayApart =
    (names : List NameView) (resources : List ResourceView) → AreApart (map a_name names) → AreByAddress resources → AreApart (numbered names resources)

-- The names keep their places, the orphans follow them, and there is nothing after those.
pub record AreInOrder (names : List NameView) (resources : List ResourceView) : Type 0 where
  pub first_names : (n : ℕ) → n < length names → slice_get (numbered names resources) n ≡ option_map a_name (slice_get names n)
  pub then_orphans : (n : ℕ) → slice_get (numbered names resources) (length names + n) ≡ option_map an_orphan (slice_get (orphans names resources) n)
  pub then_none : (n : ℕ) → length names + length (orphans names resources) ≤ n → slice_get (numbered names resources) n ≡ None

abbrev pub NumbersAreInOrder : Type 0
NumbersAreInOrder = (names : List NameView) (resources : List ResourceView) → AreInOrder names resources

-- The place of a resource is among the names exactly if the configuration has a block of it.
abbrev pub BlocksComeFirst : Type 0
BlocksComeFirst =
    (names : List NameView) (resources : List ResourceView) (addr : ResourceAddrView) (n : ℕ) → place_in (numbered names resources) addr ≡ Some n
    → (n < length names) ↔ (has_block names addr ≡ true)

-- There are at most as many numbers as names and resources of the state.
abbrev pub NumbersAreFew : Type 0
NumbersAreFew = (names : List NameView) (resources : List ResourceView) → length (numbered names resources) ≤ length names + length resources

-- The address of a resource, as a text, names the resource if its type has no dot.
abbrev pub AddressesAreNamed : Type 0
AddressesAreNamed = (addr : ResourceAddrView) → list_any is_dot addr.type_name ≡ false → named_address (addr_text addr) ≡ Some addr

-- The list of stored dependencies has exactly the pairs that are stored dependencies.
abbrev pub DependenciesAreThose : Type 0
DependenciesAreThose =
    (all : List ResourceRefView) (resources : List ResourceView) (place other : ℕ) → Contains (dependencies all resources) (place, other) ↔ IsStoredDependency all resources place other
