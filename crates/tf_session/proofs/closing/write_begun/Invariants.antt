-- the lines of the first requests are written
use Rattle.std.proofs.Common.{◌≡◌, ◌++◌, map}
use Rattle.std.specs.Vec.Iter.{into_iter_items}
use Rattle.tf_session.proofs.closing.write_begun.Given as goal

abbrev pub invariant-loop-flight : goal.invariant-loop-flight
invariant-loop-flight l = l.fn.waiting.items ≡ map (λ b. b.message) l.written.items ++ into_iter_items l.flight-iterator
