-- What ends of all actions that fit together give a report.
use Rattle.std.proofs.Common.{◌≡◌, ◌<◌, ℕ, zero, suc, false, List, [], ◌∷◌, ◌++◌, length, map, arith}
use Rattle.tf_walk_report.specs.ActionReport.{AreJudged}
use Rattle.tf_walk_workers.proofs.Outcomes.{true_outcomes, excused_faultless}
use Rattle.tf_walk_workers.specs.Laws.{FitTogether}
use Rattle.tf_graph.specs.Digraph.{predecessors_of}
use Rattle.tf_graph.specs.Solutions.{Ranked, seen_by}
use Rattle.tf_walk_action.specs.Excuse.{Moment, during_call}
use Rattle.tf_walk_action.specs.Outcome.{ActionResultView, excused, Requests, AreRequests, call_at, done_at, is_faulted, op_of}
use Rattle.tf_plan_data.specs.Plan.{PlanView}
use Rattle.tf_provider_protocol.specs.Meaning.{Meaning}
use Rattle.tf_walk_report.proofs.Excused.{excuses-with_outputs}
use Rattle.tf_walk_report.proofs.JudgedAsAsked.{outcomes-judged}
use Rattle.tf_walk_report.specs.Outcomes.{excuses_from}
use Rattle.tf_walk_report.specs.OutputsTold.{output_excuses}

-- an action that was excused has a place in the list
excused-below : (done : List ActionResultView) (n : ℕ) (m : Moment) → done_at done n ≡ excused m → n < length done
excused-below [] n m e = absurd (cc)
excused-below (d ∷ done) zero m e = omega arith
excused-below (d ∷ done) (suc n) m e = let r = excused-below done n m e in omega arith

module _ (ms : List Meaning) (plan : PlanView) (done : List ActionResultView) (ranked : Ranked (predecessors_of plan.order)) (fit : FitTogether ms plan done) (requests : Requests) (are : AreRequests plan requests) where
  -- of an action that was excused during its call the request has no fault
  pub fit-asked : (n : ℕ) → done_at done n ≡ excused during_call → is_faulted (call_at ms requests plan n (seen_by (done_at done) (predecessors_of plan.order n))) ≡ false
  fit-asked n is =
      let below = excused-below done n during_call is in
      excused_faultless ms plan done ranked fit requests are n (omega (arith, below, fit.all)) is

  -- each call was judged by the schema of the provider that has the type
  pub fit-judged : AreJudged ms (map (λ a. op_of a.step) plan.actions) done
  fit-judged =
      let excuses = excuses_from 0 done ++ output_excuses 0 [] in
      outcomes-judged ms requests plan excuses done (true_outcomes ms plan done ranked fit requests are excuses (λ n below. excuses-with_outputs done [] n))
