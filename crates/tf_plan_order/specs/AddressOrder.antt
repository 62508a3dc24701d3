-- The resources of a configuration and a state together, in address order.
use Rattle.std.specs.Prelude.{ℕ, Bool, List, length, filter, is_some, Option, option_and_then, slice_get}
use Rattle.std.specs.List.{range_with_len}
use Rattle.std.specs.List.Sorted.{IsPermutation, IsSortedBy}
use Rattle.std.specs.Option.{option_cmp}
use Rattle.std.specs.Ordering.{is_lt}
use Rattle.std.specs.declared.cmp.Ordering.{Ordering}
use Rattle.tf_config_address.specs.ResourceAddr.{ResourceAddrView, addr_cmp}
use Rattle.tf_plan_order.specs.ResourceIndex.{ResourceRefView, address_of}

-- the address of the resource at a place; `None` for a local and past the end
abbrev pub address_at : List ResourceRefView → ℕ → Option ResourceAddrView
address_at all n = option_and_then address_of (slice_get all n)

-- a resource, which is a block or an orphan, is at a place
abbrev pub is_resource : List ResourceRefView → ℕ → Bool
is_resource all n = is_some (address_at all n)

-- the places of all resources
abbrev pub resource_places : List ResourceRefView → List ℕ
resource_places all = filter (is_resource all) (range_with_len 0 (length all))

-- the comparison of two places is that of the addresses there
abbrev pub address_cmp : List ResourceRefView → ℕ → ℕ → Ordering
address_cmp all a b = option_cmp addr_cmp (address_at all a) (address_at all b)

-- the address at one place comes before that at another
abbrev pub is_below : List ResourceRefView → ℕ → ℕ → Bool
is_below all a b = is_lt (address_cmp all a b)

-- Places are those of the resources in address order: each resource's, once, and none after one whose address comes
-- after its own.
pub record AreInAddressOrder (all : List ResourceRefView) (places : List ℕ) : Type 0 where
  pub each : IsPermutation (resource_places all) places
  pub sorted : IsSortedBy (is_below all) places
