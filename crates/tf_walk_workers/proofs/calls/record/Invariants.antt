-- what is left to record is the call, and the part reports none
use Rattle.std.proofs.Common.{◌≡◌, []}
use Rattle.tf_walk_workers.specs.Calls.{HasParts}
use Rattle.tf_walk_workers.proofs.calls.record.Given as goal

abbrev pub invariant-loop : goal.invariant-loop
invariant-loop g l =
    (goal.iterator-loop g).can_next l.iterator' × (goal.iterator-loop g).is_finite l.iterator' × (l.left.called ≡ l.fn.called)
    × HasParts g.N.WalkBrand.table 1 [] [] l.left.part
