-- The order of resources by address, without duplicates.
use Rattle.std.specs.Prelude.{List, map}
use Rattle.std.specs.List.Sorted.{IsStrictlySortedBy}
use Rattle.tf_config_address.specs.ResourceAddr.{ResourceAddrView, addr_cmp}
use Rattle.tf_state_data.specs.Resource.{ResourceView}

-- the addresses of resources
abbrev pub addresses_of : List ResourceView → List ResourceAddrView
addresses_of = map (λ r. r.addr)

-- resources are in the order of their addresses, no two at the same one
abbrev pub AreByAddress : List ResourceView → Type 0
AreByAddress rs = IsStrictlySortedBy addr_cmp (addresses_of rs)
