-- the places passed are below the bound so far
use Rattle.tf_walk_names.proofs.Alone.{AreBelow}
use Rattle.tf_walk_names.proofs.resources.past_last.Given as goal

abbrev pub invariant-loop-place : goal.invariant-loop-place
invariant-loop-place l = AreBelow l.places l.place-index l.past
