-- the worker has what is its own
use Rattle.tf_walk_workers.specs.Position.{IsPosition}
use Rattle.tf_walk_workers.proofs.worker.Worker.take_own_hint.Given as goal

abbrev pub invariant-loop : goal.invariant-loop
invariant-loop g l =
    (goal.iterator-loop g).can_next l.iterator' × (goal.iterator-loop g).is_finite l.iterator'
    × IsPosition g.N.WalkBrand.meanings g.N.WalkBrand.plan g.N.WalkBrand.table (g.B.WalkInput.planned l.self.walk_input.now) (g.B.WalkInput.named l.self.walk_input.now) l.self.walk.now.claims.now l.position
