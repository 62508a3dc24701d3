-- the excuses that are left say of the action what all say
use Rattle.std.proofs.Common.{◌≡◌, drop}
use Rattle.tf_walk_action.specs.Excuse.{excuse_of}
use Rattle.tf_walk_report.proofs.calls_told.was_called.Given as goal

abbrev pub invariant-loop-excuse : goal.invariant-loop-excuse
invariant-loop-excuse l = excuse_of (drop l.excuse-index l.excused) l.action ≡ excuse_of l.excused l.action
