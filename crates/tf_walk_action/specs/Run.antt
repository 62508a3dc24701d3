-- The possible results of an action that may be called.
use Rattle.std.specs.Prelude.{◌≡◌, false}
use Rattle.tf_walk_action.specs.ActionResult.{ActionResultView, excused, is_faulted}
use Rattle.tf_walk_action.specs.Excuse.{before_call, during_call, by_stop}

-- An action that may be called has the result of the call, or is excused. It may be excused before the call or
-- because of a stop in any case, but during the call only if its request has no fault.
abbrev pub IsRun : ActionResultView → ActionResultView → Type 0
IsRun call (excused before_call) = Unit {0}
IsRun call (excused by_stop) = Unit {0}
IsRun call (excused during_call) = is_faulted call ≡ false
IsRun call d = d ≡ call
