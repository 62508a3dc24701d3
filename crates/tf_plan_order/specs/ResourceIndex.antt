-- The resources of a configuration and of a prior state together, by number.
use Rattle.std.specs.Prelude.{ℕ, zero, suc, Bool, false, not, if◌then◌else◌, Option, Some, None, option_map, List, [], ◌∷◌, ◌++◌, map, filter}
use Rattle.std.specs.List.{list_any}
use Rattle.tf_config_address.specs.ResourceAddr.{ResourceAddrView}
use Rattle.tf_config_address.specs.Same.{same_addr}
use Rattle.tf_config_data.specs.Names.{NameView, Meant, a_local, a_block}
use Rattle.tf_state_data.specs.Resource.{ResourceView}

-- What has a number: a name of the configuration, or an orphan, which is a resource of the state without a block in the
-- configuration.
pub data ResourceRefView : Type 0 where
  a_name : NameView → ResourceRefView
  an_orphan : ResourceView → ResourceRefView

-- the address of a block; a local has none
abbrev pub block_address : Meant → Option ResourceAddrView
block_address (a_local e) = None
block_address (a_block b) = Some b.addr

-- the address of a resource, which is a block or an orphan. A local is not a resource, whatever its name.
abbrev pub address_of : ResourceRefView → Option ResourceAddrView
address_of (a_name n) = block_address n.meant
address_of (an_orphan r) = Some r.addr

abbrev pub is_address : ResourceAddrView → Option ResourceAddrView → Bool
is_address addr None = false
is_address addr (Some own) = same_addr own addr

-- whether it is the resource at an address
abbrev pub is_at : ResourceAddrView → ResourceRefView → Bool
is_at addr n = is_address addr (address_of n)

-- whether the configuration has a block at an address
abbrev pub has_block : List NameView → ResourceAddrView → Bool
has_block names addr = list_any (λ n. is_at addr (a_name n)) names

-- the resources of a state without a block in the configuration, in their order, which is that of addresses
abbrev pub orphans : List NameView → List ResourceView → List ResourceView
orphans names resources = filter (λ r. not (has_block names r.addr)) resources

-- All that has a number: the names of the configuration, followed by the orphans. Their places in this list number
-- them, so a name keeps the place that it has among the names alone.
abbrev pub numbered : List NameView → List ResourceView → List ResourceRefView
numbered names resources = map a_name names ++ map an_orphan (orphans names resources)

-- the place of the resource at an address, or `None` if there is no such resource
abbrev pub place_in : List ResourceRefView → ResourceAddrView → Option ℕ
place_in [] addr = None
place_in (n ∷ ns) addr = if is_at addr n then Some zero else option_map suc (place_in ns addr)
