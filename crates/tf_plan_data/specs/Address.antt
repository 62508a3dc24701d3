-- The address of an instance, as a text.
use Rattle.std.specs.Prelude.{ℕ, List, [], ◌∷◌, ◌++◌, decimal}
use Rattle.json.specs.Print.{quoted}
use Rattle.tf_config_address.specs.ResourceAddr.{ResourceAddrView, addr_text}
use Rattle.tf_config_address.specs.ObjectId.{InstanceKeyView, single, number, name}

-- `TYPE.NAME`, with a number `TYPE.NAME[0]`, with a name `TYPE.NAME["key"]`, the key as a compact JSON text
abbrev pub address_text : ResourceAddrView → InstanceKeyView → List ℕ
address_text addr single = addr_text addr
address_text addr (number n) = addr_text addr ++ 91 ∷ (decimal n ++ 93 ∷ [])
address_text addr (name s) = addr_text addr ++ 91 ∷ (quoted s ++ 93 ∷ [])
