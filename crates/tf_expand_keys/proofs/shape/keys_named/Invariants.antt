use Rattle.std.proofs.Common.{◌≡◌, ◌++◌, map, drop, string_bytes}
use Rattle.tf_config_address.specs.ObjectId as keys
use Rattle.tf_config_address.specs.ObjectId.{instance_key_of}
use Rattle.tf_expand_keys.proofs.shape.keys_named.Given as goal

-- the keys so far, and the names to come
abbrev pub invariant-loop-name : goal.invariant-loop-name
invariant-loop-name l = map instance_key_of l.keys.items ++ map keys.name (map string_bytes (drop l.name-index l.names.items)) ≡ map keys.name (map string_bytes l.names.items)
