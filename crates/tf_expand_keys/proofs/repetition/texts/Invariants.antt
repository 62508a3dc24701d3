use Rattle.std.proofs.Common.{◌≡◌, ◌++◌, map, string_bytes}
use Rattle.tf_expand_keys.proofs.repetition.texts.Given as goal

-- the texts so far, and those to come
abbrev pub invariant-loop-text : goal.invariant-loop-text
invariant-loop-text l = map string_bytes l.names.items ++ map string_bytes l.text-iterator ≡ map string_bytes l.set.keys
