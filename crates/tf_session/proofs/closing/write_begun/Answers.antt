-- the lines of the first requests are written
use Rattle.std.proofs.Common.{◌≡◌, ◌++◌, ◌∷◌, [], rules, sym}
use Rattle.tf_session.proofs.Kept.{begins_with, one_more_first}
use Rattle.tf_session.proofs.closing.write_begun.Goals as goal

pub loop-flight-init : goal.loop-flight-init
loop-flight-init c = rw c.new-written.ensures.items (sym c.into_iter-flight-iterator.ensures.into_iter_gives.0)

pub loop-flight-preserved : goal.loop-flight-preserved
loop-flight-preserved c =
    let longer : c.push.new.self.items ≡ c.loop-flight.written.items ++ c.in-Ok.line ∷ [] = search rules in
    one_more_first _ _ _ c.in-Ok.line c.in-Some.flight _ _ _ c.loop-flight.invariant c.in-Some.ensures.steps.0 longer c.in-Ok.ensures

pub returns-in_default : goal.returns-in_default
returns-in_default c = begins_with _ _ _ _ c.loop-flight.invariant

pub returns-then-is_err : goal.returns-then-is_err
returns-then-is_err c =
    let kept : c.push.new.self.items ≡ c.loop-flight.written.items = search rules in
    rw kept (begins_with _ _ _ _ c.loop-flight.invariant)

pub returns : goal.returns
returns c = begins_with _ _ _ _ c.loop-flight.invariant
