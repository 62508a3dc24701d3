use Rattle.std.proofs.Common.{◌≡◌, ◌++◌, map, string_bytes}
use Rattle.tf_value_data.specs.Tree.{entries_view, keys_of}
use Rattle.tf_expand_keys.proofs.repetition.keys.Given as goal

-- the keys so far, and those to come
abbrev pub invariant-loop-name : goal.invariant-loop-name
invariant-loop-name l = map string_bytes l.names.items ++ keys_of (entries_view l.name-iterator) ≡ keys_of (entries_view l.entries.entries)
