-- the seats made so far belong to these claims, and their parts are those that the given one lacks
use Rattle.std.proofs.Common.{◌≡◌, ◌≤◌, ◌+◌, ◌-◌, [], All}
use Rattle.std.specs.Prelude.{vec_len}
use Rattle.tf_walk_workers.specs.Calls.{HasParts}
use Rattle.tf_walk_workers.specs.Sharing.{IsWorkerState}
use Rattle.tf_walk.proofs.prepared_many.team_of.Given as goal

abbrev pub invariant-loop-made : goal.invariant-loop-made
invariant-loop-made g l = record {
  seat : l.seat.table ≡ l.claims.table;
  others : All (IsWorkerState l.claims.table l.tally) l.others.items;
  counted : vec_len l.others + 1 ≡ l.made;
  most : l.made ≤ l.workers;
  part : HasParts l.tally (l.fn.part.holding.parts - vec_len l.others) [] [] l.part;
  whole : l.part.holding.whole ≡ l.fn.part.holding.whole;
}
