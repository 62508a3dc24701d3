-- those so far are printable
use Rattle.std.proofs.Common.{◌≡◌, true, take}
use Rattle.std.specs.List.{list_all}
use Rattle.tf_provider_progress.specs.Lines.{is_printable}
use Rattle.tf_provider_progress.proofs.lines.are_printable.Given as goal

abbrev pub invariant-loop-byte : goal.invariant-loop-byte
invariant-loop-byte l = list_all is_printable (take l.byte-index l.bytes) ≡ true
