-- what is left to publish is of the action, and true of it, and its part reports its call
use Rattle.std.proofs.Common.{[]}
use Rattle.tf_walk_workers.specs.Calls.{HasParts, reported_by}
use Rattle.tf_walk_workers.specs.Ideal.{IsEndOf}
use Rattle.tf_walk_workers.proofs.publishing.fill_cell.Given as goal

abbrev pub invariant-loop : goal.invariant-loop
invariant-loop g l =
    (goal.iterator-loop g).can_next l.iterator' × (goal.iterator-loop g).is_finite l.iterator'
    × IsEndOf g.N.WalkBrand.meanings g.N.WalkBrand.plan l.fn.action l.left.ended
    × HasParts g.N.WalkBrand.table 1 [] (reported_by l.left.ended) l.left.part
