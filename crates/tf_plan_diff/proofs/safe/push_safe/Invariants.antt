-- the escaped characters so far
use Rattle.std.proofs.Common.{◌≡◌, ◌++◌, string_bytes, encode_utf8_all}
use Rattle.tf_plan_diff.specs.Safe.{safe_chars}
use Rattle.tf_plan_diff.proofs.safe.push_safe.Given as goal

abbrev pub invariant-loop-c : goal.invariant-loop-c
invariant-loop-c l = string_bytes l.out ≡ string_bytes l.fn.out ++ encode_utf8_all (safe_chars l.yielded)
