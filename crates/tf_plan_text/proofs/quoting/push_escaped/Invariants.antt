-- what stands for the characters so far
use Rattle.std.proofs.Common.{◌≡◌, ◌++◌, string_bytes, encode_utf8_all}
use Rattle.tf_plan_text.specs.Quoted.{escaped_chars}
use Rattle.tf_plan_text.proofs.quoting.push_escaped.Given as goal

abbrev pub invariant-loop-c : goal.invariant-loop-c
invariant-loop-c l = string_bytes l.out ≡ string_bytes l.fn.out ++ encode_utf8_all (escaped_chars l.yielded)
