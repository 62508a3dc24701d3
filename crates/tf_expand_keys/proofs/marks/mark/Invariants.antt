use Rattle.std.proofs.Common.{drop}
use Rattle.tf_expand_keys.proofs.Marking.{AreMarked}
use Rattle.tf_expand_keys.proofs.marks.mark.Given as goal

abbrev pub invariant-loop-place : goal.invariant-loop-place
invariant-loop-place l = AreMarked l.fn.marked l.places l.marked (drop l.place-index l.places)
