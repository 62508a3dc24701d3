-- as many as there were turns
use Rattle.std.proofs.Common.{◌≡◌, length}
use Rattle.tf_walk_report.proofs.reserving.unmarked.Given as goal

abbrev pub invariant-loop : goal.invariant-loop
invariant-loop l = length l.marks.items ≡ l.counter
