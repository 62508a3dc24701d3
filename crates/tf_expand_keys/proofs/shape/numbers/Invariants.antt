use Rattle.std.proofs.Common.{◌≡◌, map}
use Rattle.std.specs.List.{range_with_len}
use Rattle.tf_config_address.specs.ObjectId.{instance_key_of, number}
use Rattle.tf_expand_keys.proofs.shape.numbers.Given as goal

-- the keys so far
abbrev pub invariant-loop-number : goal.invariant-loop-number
invariant-loop-number l = map instance_key_of l.keys.items ≡ map number (range_with_len 0 l.number)
