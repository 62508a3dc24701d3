-- the worker has what is its own
use Rattle.tf_walk_workers.specs.Position.{IsPosition}
use Rattle.tf_walk_workers.proofs.worker.Worker.steal_from_any.Given as goal

abbrev pub invariant-loop-stealer : goal.invariant-loop-stealer
invariant-loop-stealer g l = IsPosition g.N.WalkBrand.meanings g.N.WalkBrand.plan g.N.WalkBrand.table (g.B.WalkInput.planned l.self.walk_input.now) (g.B.WalkInput.named l.self.walk_input.now) l.self.walk.now.claims.now l.position
