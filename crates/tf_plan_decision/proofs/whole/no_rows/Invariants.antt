use Rattle.std.proofs.Common.{◌≡◌, length}
use Rattle.tf_plan_decision.proofs.whole.no_rows.Given as goal

abbrev pub invariant-loop : goal.invariant-loop
invariant-loop l = length l.rows.items ≡ l.counter
