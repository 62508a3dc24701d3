-- What a report says of the calls that were made, by its outcomes and excuses.
use Rattle.std.specs.Prelude.{ℕ, Bool, true, false, if◌then◌else◌, List, Option, Some, None, slice_get}
use Rattle.tf_walk_action.specs.Excuse.{Moment, during_call, excuse_of}
use Rattle.tf_walk_action.specs.declared.excuse.Excuse.{Excuse}
use Rattle.tf_walk_action.specs.declared.excuse.Outcome.{Outcome}
use Rattle.tf_walk_action.specs.declared.excuse.Outcome.TheVariants as outcome
use Rattle.tf_provider_protocol.specs.declared.verdict.Verdict.{Verdict}
use Rattle.tf_provider_protocol.specs.declared.verdict.Verdict.TheVariants as verdict

abbrev pub is_during : Option Moment → Bool
is_during (Some during_call) = true
is_during _ = false

-- the verdict on the call of an action with this outcome, if it was called; an excused action was called if it was
-- excused during its call
abbrev pub verdict_of : Option Outcome → Bool → Option Verdict
verdict_of (Some (outcome.Judged v)) during = Some v
verdict_of (Some outcome.Excused) during = if during then Some verdict.Excused else None
verdict_of _ during = None

-- the verdict on the call of the action at an index, by all outcomes and excuses
abbrev pub verdict_told : List Outcome → List Excuse → ℕ → Option Verdict
verdict_told outcomes excused n = verdict_of (slice_get outcomes n) (is_during (excuse_of excused n))
