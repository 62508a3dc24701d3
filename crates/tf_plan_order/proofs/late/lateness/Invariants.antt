use Rattle.std.proofs.Common.{◌≡◌, ◌+◌, length, vec_len}
use Rattle.tf_plan_order.proofs.SpreadState.{IsSpread}
use Rattle.tf_plan_order.specs.Spread.{unfound}
use Rattle.tf_plan_order.proofs.late.lateness.Given as goal

abbrev pub invariant-loop-resource : goal.invariant-loop-resource
invariant-loop-resource l = record {
  long : length l.search.late.items ≡ length l.marked;
  spread : IsSpread l.needs l.needed l.marked l.search.late.items l.search.pending.items;
}

abbrev pub decreases-loop-resource : goal.decreases-loop-resource
decreases-loop-resource l = unfound l.search.late.items + vec_len l.search.pending
