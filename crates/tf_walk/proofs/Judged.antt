-- What was judged is what comes of the call of the provider that has the type, to a request of the action's kind.
use Rattle.std.proofs.Common.{◌≡◌, ℕ, Bool, true, false, List, Option, Some}
use Rattle.std.specs.Prelude.{MatchBool}
use Rattle.tf_walk_report.specs.ActionReport.{IsJudged}
use Rattle.tf_plan_data.specs.Plan.{PlanView}
use Rattle.tf_provider_protocol.specs.Meaning.{Asked, Answer, Meaning}
use Rattle.tf_provider_protocol.specs.declared.request.Op.{Op}
use Rattle.tf_provider_protocol.specs.declared.verdict.Verdict.{Verdict}
use Rattle.tf_walk_action.specs.Journal.{op_at}
use Rattle.tf_walk_action.specs.Outcome.{ActionResultView, skipped, excused, faulted, called, Requests, all_good, call_at}
use Rattle.tf_walk_action.specs.Run.{IsRun}
use Rattle.tf_walk_report.proofs.JudgedAsAsked.{call-judged}
use Rattle.tf_walk_single.specs.Ends.{IsEnd}

judged_where : (ms : List Meaning) (requests : Requests) (plan : PlanView) (n : ℕ) (seen : List (ℕ × ActionResultView)) (op : Op) (b : Bool) (q : Asked) (a : Option Answer) (v : Verdict)
    → op_at plan.actions n ≡ Some op → MatchBool b (IsRun (call_at ms requests plan n seen) (called q a v)) (called q a v ≡ skipped) → IsJudged ms op (called q a v)
judged_where ms requests plan n seen op true q a v kind h = call-judged ms requests plan n seen op (called q a v) kind h
judged_where ms requests plan n seen op false q a v kind h = absurd (cc)

-- an action that ended as it has to was judged by that provider's schema, as what it was asked to do
pub ended-judged : (ms : List Meaning) (requests : Requests) (plan : PlanView) (n : ℕ) (seen : List (ℕ × ActionResultView)) (op : Op) (d : ActionResultView) → op_at plan.actions n ≡ Some op → IsEnd ms requests plan n seen d → IsJudged ms op d
ended-judged ms requests plan n seen op skipped kind h = tt
ended-judged ms requests plan n seen op (excused m) kind h = tt
ended-judged ms requests plan n seen op (faulted why) kind h = tt
ended-judged ms requests plan n seen op (called q a v) kind h = judged_where ms requests plan n seen op (all_good seen) q a v kind h
