use Rattle.std.proofs.Common.{◌≡◌, take}
use Rattle.tf_plan_order.specs.Stored.{turned}
use Rattle.tf_plan_order.proofs.stored.turn.Given as goal

abbrev pub invariant-loop-from : goal.invariant-loop-from
invariant-loop-from l = l.edges.items ≡ turned (take l.from-index l.pairs)
