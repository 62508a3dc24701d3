-- What a walk that has ended every action gives a report.
use Rattle.std.proofs.Common.{◌≡◌, ◌∙◌, ℕ, zero, suc, Bool, true, false, List, [], length, map, Option, Some, None, option_map, replicate, refl, sym, ap, subst}
use Rattle.std.proofs.lemmas.List.{length-map, length-replicate}
use Rattle.std.specs.Prelude.{is_some, unwrap_or, option_and_then, if◌then◌else◌, MatchBool}
use Rattle.tf_claim.specs.Ledger.{stage_in}
use Rattle.tf_claim.specs.declared.book.Stage.TheVariants as stage
use Rattle.tf_graph.specs.Digraph.{predecessors_of}
use Rattle.tf_graph.proofs.Solving.{seen_by-same}
use Rattle.tf_graph.specs.Solutions.{seen_by}
use Rattle.tf_provider.specs.declared.journal.Entry.{Entry}
use Rattle.tf_plan_data.specs.Plan.{PlanView}
use Rattle.tf_provider_protocol.specs.Meaning.{Meaning}
use Rattle.tf_provider_protocol.specs.declared.request.Op.{Op}
use Rattle.tf_walk_action.specs.ResultViews.{action_result_of}
use Rattle.tf_walk_action.specs.Excuse.{Moment, before_call, during_call, by_stop, excuse_of}
use Rattle.tf_walk_action.specs.Journal.{op_at, verdict_in, entered_verdict}
use Rattle.tf_walk_action.specs.Outcome.{ActionResultView, skipped, excused, faulted, called, Requests, AreRequests, all_good, call_at, excuse_in, is_faulted, op_of, or_excused, rule, done_at, AreOutcomes}
use Rattle.tf_walk_action.specs.declared.excuse.Excuse.{Excuse}
use Rattle.tf_walk_report.proofs.Excused.{excuses-with_outputs}
use Rattle.tf_walk_report.specs.ActionReport.{AreJudged, IsJudged}
use Rattle.tf_walk_outputs.specs.Outputs.{OutputResultView, end_of}
use Rattle.tf_walk_report.specs.Report.{IsReport, IsTold}
use Rattle.tf_walk_report.specs.declared.report.Report.{Report}
use Rattle.tf_walk_action.specs.Run.{IsRun}
use Rattle.tf_walk_single.specs.Ends.{IsSoFar, IsStaged, AllHaveEnded, end_at, done_in, stage_of}
use Rattle.tf_walk_report.proofs.JudgedAsAsked.{all-judged, ops-read}
use Rattle.tf_walk.proofs.Judged.{ended-judged}
use Rattle.tf_walk_single.proofs.Seen.{all_of}

is_there : (o : Option ActionResultView) → is_some o ≡ true → (d : ActionResultView) × (o ≡ Some d)
is_there None e = absurd (cc)
is_there (Some d) e = (d, refl)

by_end : (b : Bool) (call d : ActionResultView) (o : Option Moment) → o ≡ excuse_in d → MatchBool b (IsRun call d) (d ≡ skipped) → d ≡ (if b then or_excused o call else skipped)
by_end false call d o e h = h
by_end true call skipped o e h = rw e h
by_end true call (excused before_call) o e h = rw e refl
by_end true call (excused by_stop) o e h = rw e refl
by_end true call (excused during_call) o e h = rw e refl
by_end true call (faulted why) o e h = rw e h
by_end true call (called r a v) o e h = rw e h

-- the ends are the outcomes by the rule, for excuses that excuse exactly what ended so
pub so_far-solves : (ms : List Meaning) (requests : Requests) (plan : PlanView) (ends : List (Option ActionResultView)) (entries : List Entry) (done : List ActionResultView) (excuses : List Excuse)
    → IsSoFar ms plan ends entries → AreRequests plan requests → AllHaveEnded plan ends → length done ≡ length ends → ((n : ℕ) → done_at done n ≡ done_in ends n)
    → ((n : ℕ) → excuse_of excuses n ≡ excuse_in (done_at done n))
    → AreOutcomes ms requests plan excuses done
so_far-solves ms requests plan ends entries done excuses s are all sized same excused_so =
    record {
      all = sized ∙ s.sized;
      solves = λ n h.
          let nodes = predecessors_of plan.order n in
          let there = is_there (end_at ends n) (all n h) in
          let d = there.0 in
          let here : done_at done n ≡ d = same n ∙ ap (λ (o : Option ActionResultView). unwrap_or o skipped) there.1 in
          let seen : seen_by (done_at done) nodes ≡ seen_by (done_in ends) nodes = seen_by-same (done_at done) (done_in ends) nodes (all_of (λ m. done_at done m ≡ done_in ends m) nodes same) in
          let end = s.ended requests are n d there.1 in
          let excuse = excused_so n ∙ ap excuse_in here in
          here ∙ (by_end (all_good (seen_by (done_in ends) nodes)) (call_at ms requests plan n (seen_by (done_in ends) nodes)) d _ excuse end
          ∙ ap (rule ms requests plan excuses n) (sym seen));
    }

ended_during : (o : Option ActionResultView) → unwrap_or o skipped ≡ excused during_call → o ≡ Some (excused during_call)
ended_during None e = absurd (cc)
ended_during (Some d) e = ap (λ (x : ActionResultView). Some x) e

run_during : (b : Bool) (call : ActionResultView) → MatchBool b (IsRun call (excused during_call)) (excused during_call ≡ skipped) → is_faulted call ≡ false
run_during true call h = h
run_during false call h = absurd (cc)

-- of an action that was excused during its call the request has no fault
pub so_far-asked : (ms : List Meaning) (requests : Requests) (plan : PlanView) (ends : List (Option ActionResultView)) (entries : List Entry) (done : List ActionResultView)
    → IsSoFar ms plan ends entries → AreRequests plan requests → ((n : ℕ) → done_at done n ≡ done_in ends n)
    → (n : ℕ) → done_at done n ≡ excused during_call → is_faulted (call_at ms requests plan n (seen_by (done_at done) (predecessors_of plan.order n))) ≡ false
so_far-asked ms requests plan ends entries done s are same n e =
    let nodes = predecessors_of plan.order n in
    let seen : seen_by (done_at done) nodes ≡ seen_by (done_in ends) nodes = seen_by-same (done_at done) (done_in ends) nodes (all_of (λ m. done_at done m ≡ done_in ends m) nodes same) in
    let end = s.ended requests are n (excused during_call) (ended_during (end_at ends n) (sym (same n) ∙ e)) in
    ap (λ (ds : List (ℕ × ActionResultView)). is_faulted (call_at ms requests plan n ds)) seen
    ∙ run_during (all_good (seen_by (done_in ends) nodes)) (call_at ms requests plan n (seen_by (done_in ends) nodes)) end

-- a report that reports what came of all actions is a report on their plan, where that is what the rule makes of the report's excuses
pub is_report-told : (ms : List Meaning) (requests : Requests) (plan : PlanView) (done : List ActionResultView) (outputs : List OutputResultView) (report : Report)
    → (((n : ℕ) → excuse_of report.excused.items n ≡ excuse_in (done_at done n)) → AreOutcomes ms requests plan report.excused.items done)
    → ((n : ℕ) → done_at done n ≡ excused during_call → is_faulted (call_at ms requests plan n (seen_by (done_at done) (predecessors_of plan.order n))) ≡ false)
    → IsTold ms plan done outputs report → IsReport ms requests plan done outputs report
is_report-told ms requests plan done outputs report solves asked told =
    record { solved = solves (λ n. ap (λ es. excuse_of es n) told.lawful ∙ excuses-with_outputs done (map end_of outputs) n); asked = asked; told = told }

entered_one : (o : Option ActionResultView) → option_and_then entered_verdict o ≡ entered_verdict (unwrap_or o skipped)
entered_one None = refl
entered_one (Some d) = refl

pub so_far-entered : (ms : List Meaning) (plan : PlanView) (ends : List (Option ActionResultView)) (entries : List Entry) (done : List ActionResultView)
    → IsSoFar ms plan ends entries → ((n : ℕ) → done_at done n ≡ done_in ends n) → (n : ℕ) → verdict_in entries n ≡ entered_verdict (done_at done n)
so_far-entered ms plan ends entries done s same n = s.entered n ∙ (entered_one (end_at ends n) ∙ ap entered_verdict (sym (same n)))

-- each call was judged by the schema of the provider that has the type
pub so_far-judged : (ms : List Meaning) (requests : Requests) (plan : PlanView) (ends : List (Option ActionResultView)) (entries : List Entry) (done : List ActionResultView)
    → IsSoFar ms plan ends entries → AreRequests plan requests → ((n : ℕ) → done_at done n ≡ done_in ends n) → AreJudged ms (map (λ a. op_of a.step) plan.actions) done
so_far-judged ms requests plan ends entries done s are same =
    all-judged ms (map (λ a. op_of a.step) plan.actions) done
    (λ n op e. subst (IsJudged ms op) (sym (same n)) (one n op (sym (ops-read plan.actions n) ∙ e) (end_at ends n) refl))
  where
    one : (n : ℕ) (op : Op) → op_at plan.actions n ≡ Some op → (o : Option ActionResultView) → end_at ends n ≡ o → IsJudged ms op (unwrap_or o skipped)
    one n op kind None e = tt
    one n op kind (Some d) e = ended-judged ms requests plan n (seen_by (done_in ends) (predecessors_of plan.order n)) op d kind (s.ended requests are n d e)

-- ---- before the first call

none_yet : (count n : ℕ) → end_at (map (option_map action_result_of) (replicate count None)) n ≡ None
none_yet zero n = refl
none_yet (suc count) zero = refl
none_yet (suc count) (suc n) = none_yet count n

-- nothing has ended
pub so_far-none : (ms : List Meaning) (plan : PlanView) (count : ℕ) → count ≡ length plan.actions → IsSoFar ms plan (map (option_map action_result_of) (replicate count None)) []
so_far-none ms plan count sized =
    record {
      sized = length-map (replicate count None) (option_map action_result_of) ∙ (length-replicate count None ∙ sized);
      closed = λ n some. absurd (nothing n some);
      ended = λ requests are n d is. absurd (nothing n (ap is_some is));
      entered = λ n. sym (ap (option_and_then entered_verdict) (none_yet count n));
      ops = tt;
    }
  where
    nothing : (n : ℕ) → is_some (end_at (map (option_map action_result_of) (replicate count None)) n) ≡ true → ⊥
    nothing n some = let none : is_some (end_at (map (option_map action_result_of) (replicate count None)) n) ≡ false = ap is_some (none_yet count n) in cc

free_yet : (nodes n : ℕ) → stage_in (replicate nodes stage.Free) n ≡ stage.Free
free_yet zero n = refl
free_yet (suc nodes) zero = refl
free_yet (suc nodes) (suc n) = free_yet nodes n

-- and each action is free
pub staged-none : (nodes count : ℕ) → IsStaged (replicate nodes stage.Free) (map (option_map action_result_of) (replicate count None))
staged-none nodes count = λ n. free_yet nodes n ∙ sym (ap stage_of (none_yet count n))
