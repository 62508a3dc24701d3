-- The calls of a walk, as its journal keeps them and as the results of its actions report them.
use Rattle.std.specs.Prelude.{◌≡◌, ◌+◌, ℕ, List, [], ◌∷◌, map, Option, Some, None, IfSome}
use Rattle.std.specs.List.{sum_by}
use Rattle.atomic_table.specs.Seated.{TableId}
use Rattle.tf_plan_data.specs.Plan.{PlanView}
use Rattle.tf_provider.specs.declared.journal.Entry.{Entry}
use Rattle.tf_provider_protocol.specs.Meaning.{Meaning}
use Rattle.tf_provider_protocol.specs.declared.verdict.Verdict.{Verdict}
use Rattle.tf_tally.specs.Holdings.{HeldPart}
use Rattle.tf_walk_action.specs.Journal.{entered_verdict}
use Rattle.tf_walk_action.specs.ResultViews.{action_result_of, ended_action}
use Rattle.tf_walk_action.specs.declared.action_result.ActionResult.{ActionResult}
use Rattle.tf_walk_workers.specs.Ideal.{IsEndOf}
use Rattle.tf_walk_workers.specs.declared.call_record.CallRecord.{CallRecord}

-- the call of an entry, and the calls of a journal, in its order
abbrev pub record_of : Entry → CallRecord
record_of e = record { action = e.action; verdict = e.verdict }

abbrev pub records_of : List Entry → List CallRecord
records_of entries = map record_of entries

-- the call of an action, by the verdict on it, if there was one
abbrev pub called_with : ℕ → Option Verdict → List CallRecord
called_with n None = []
called_with n (Some v) = record { action = n; verdict = v } ∷ []

-- the call that a result reports: none, unless the action was called
abbrev pub reported_by : ActionResult → List CallRecord
reported_by ended = called_with (ended_action ended) (entered_verdict (action_result_of ended))

abbrev pub reported_in : Option ActionResult → List CallRecord
reported_in None = []
reported_in (Some ended) = reported_by ended

-- what the calls weigh that some results report
abbrev pub reported_weight : (CallRecord → ℕ) → List (Option ActionResult) → ℕ
reported_weight h results = sum_by (λ o. sum_by h (reported_in o)) results

-- a part of this tally is this number of its parts, and keeps and reports just these calls
pub record HasParts (table : TableId) (count : ℕ) (kept reported : List CallRecord) (part : HeldPart CallRecord) : Type 0 where
  pub own : part.table ≡ table
  pub counts : part.holding.parts ≡ count
  pub keeps : part.holding.kept ≡ kept
  pub reports : part.holding.reported ≡ reported

-- A cell of an action has its result, once that is published, and a part that reports the action's call.
pub record IsCell (ms : List Meaning) (plan : PlanView) (table : TableId) (n : ℕ) (ended : Option ActionResult) (part : HeldPart CallRecord) : Type 0 where
  pub fits : IfSome ended (IsEndOf ms plan n)
  pub reports : HasParts table 1 [] (reported_in ended) part

-- The parts of this number of cells were put to a part: it reports also what these results report.
pub record IsGathered (count : ℕ) (results : List (Option ActionResult)) (old new : HeldPart CallRecord) : Type 0 where
  pub own : new.table ≡ old.table
  pub whole : new.holding.whole ≡ old.holding.whole
  pub parts : new.holding.parts ≡ old.holding.parts + count
  pub kept : new.holding.kept ≡ old.holding.kept
  pub reported : (h : CallRecord → ℕ) → sum_by h new.holding.reported ≡ sum_by h old.holding.reported + reported_weight h results
