-- The instances of an expansion, by the address of a resource.
use Rattle.std.specs.Prelude.{ℕ, List, Option, Some, None}
use Rattle.tf_config_address.specs.ResourceAddr.{ResourceAddrView}
use Rattle.tf_config_data.specs.Names.{NameView, Meant, a_block, addr_pair, meant_at, place_of}
use Rattle.tf_config_names.specs.Table.{names_in}
use Rattle.tf_expand_keys.specs.InstanceKeys.{InstanceKeysView}
use Rattle.tf_expand_keys.specs.Views.{shapes_of}
use Rattle.tf_expand.specs.declared.expanded.Expanded.{Expanded}

-- the names of the configuration
abbrev pub names_expanded : Expanded → List NameView
names_expanded found = names_in found.names

-- the instance keys of each name, by its place
abbrev pub instances_of : Expanded → ℕ → InstanceKeysView
instances_of found = shapes_of found.shapes.items

-- the instance keys of a name, if it is a resource
abbrev pub keys_of : Option Meant → InstanceKeysView → Option InstanceKeysView
keys_of (Some (a_block b)) keys = Some keys
keys_of _ keys = None

-- the instance keys of the name at a place, if there is one and it is a resource
abbrev pub keys_in : List NameView → (ℕ → InstanceKeysView) → Option ℕ → Option InstanceKeysView
keys_in names instances (Some n) = keys_of (meant_at names n) (instances n)
keys_in names instances None = None

-- the instance keys of the resource at an address, if the configuration declares it
abbrev pub keys_for : Expanded → ResourceAddrView → Option InstanceKeysView
keys_for found addr = keys_in (names_expanded found) (instances_of found) (place_of (names_expanded found) (addr_pair addr))
