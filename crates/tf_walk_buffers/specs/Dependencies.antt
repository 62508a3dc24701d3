-- The resources that a resource depends on, as a state stores them.
use Rattle.std.specs.Prelude.{ℕ, Bool, List, [], length, filter, fold, Option, Some, None}
use Rattle.std.specs.List.{filter_map, range_with_len}
use Rattle.tf_config_address.specs.ResourceAddr.{addr_text}
use Rattle.tf_config_data.specs.Names.{NameView, Meant, a_local, a_block, meant_at}
use Rattle.tf_config_names.specs.Texts.{put_text}

-- the address of a resource; a local has none
abbrev pub address_of : Option Meant → Option (List ℕ)
address_of (Some (a_block block)) = Some (addr_text block.addr)
address_of (Some (a_local e)) = None
address_of None = None

-- some addresses in byte order, with one more if it is given
abbrev pub with_address : Option (List ℕ) → List (List ℕ) → List (List ℕ)
with_address None found = found
with_address (Some address) found = put_text found address

-- The addresses of all resources that the name at an index needs, each once and in byte order.
abbrev pub dependencies : (ℕ → ℕ → Bool) → List NameView → ℕ → List (List ℕ)
dependencies needs names n = fold (λ found m. with_address (address_of (meant_at names m)) found) [] (filter (needs n) (range_with_len 0 (length names)))

-- the same addresses in the order of the names
abbrev pub addresses : (ℕ → ℕ → Bool) → List NameView → ℕ → List (List ℕ)
addresses needs names n = filter_map (λ m. address_of (meant_at names m)) (filter (needs n) (range_with_len 0 (length names)))

-- the addresses of the resources at some indexes
abbrev pub addresses_at : List NameView → List ℕ → List (List ℕ)
addresses_at names places = filter_map (λ m. address_of (meant_at names m)) places

-- texts in byte order, each once
abbrev pub put_all : List (List ℕ) → List (List ℕ)
put_all texts = fold put_text [] texts
