-- The possible results of an action.
use Rattle.std.specs.Prelude.{Bool, true, false, Option, Some, None}
use Rattle.tf_plan_object.specs.Instance.{InstanceFaultView}
use Rattle.tf_provider_protocol.specs.Meaning.{Asked, Answer}
use Rattle.tf_provider_protocol.specs.Verdict.{is_good_verdict}
use Rattle.tf_provider_protocol.specs.declared.verdict.Verdict.{Verdict}
use Rattle.tf_walk_action.specs.Excuse.{Moment}

-- The result of an action. It was skipped, since one directly before it isn't good; or excused, since memory ran out
-- or the walk was stopped; or faulted, since its `for_each` or an argument has a fault; or its provider was called,
-- and the answer was judged.
pub data ActionResultView : Type 0 where
  skipped : ActionResultView
  excused : Moment → ActionResultView
  faulted : InstanceFaultView → ActionResultView
  called : Asked → Option Answer → Verdict → ActionResultView

abbrev pub is_good : ActionResultView → Bool
is_good (called asked answer v) = is_good_verdict v
is_good _ = false

abbrev pub is_faulted : ActionResultView → Bool
is_faulted (faulted why) = true
is_faulted _ = false

-- the moment at which an action was excused, if it was
abbrev pub excuse_in : ActionResultView → Option Moment
excuse_in (excused m) = Some m
excuse_in _ = None
