-- the bytes so far are blanked, and the others are as they were
use Rattle.std.proofs.Common.{◌≡◌, ◌++◌, take, drop}
use Rattle.tf_walk_report.specs.Diagnostics.{in_one_line}
use Rattle.tf_walk_report.proofs.one_line.blank_controls.Given as goal

abbrev pub invariant-loop-byte : goal.invariant-loop-byte
invariant-loop-byte l = l.bytes ≡ in_one_line (take l.byte-index l.fn.bytes) ++ drop l.byte-index l.fn.bytes
