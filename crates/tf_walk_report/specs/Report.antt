-- What a report says of a plan that was carried out.
use Rattle.std.specs.Prelude.{◌≡◌, ℕ, Bool, false, List, ◌++◌, length, map}
use Rattle.std.specs.List.{range_with_len}
use Rattle.tf_walk_report.specs.Diagnostics.{action_diagnostics, diagnostic_of}
use Rattle.tf_walk_buffers.specs.Head.{AreHeads, Head}
use Rattle.tf_config_address.specs.ObjectId.{InstanceKeyView}
use Rattle.tf_graph.specs.Digraph.{predecessors_of}
use Rattle.tf_graph.specs.Solutions.{seen_by}
use Rattle.tf_state_next.specs.Events.{ends_in, given_in}
use Rattle.tf_state_next.specs.StateAfter.{IsStateAfter}
use Rattle.tf_walk_action.specs.Excuse.{during_call}
use Rattle.tf_walk_action.specs.Journal.{IsJournal}
use Rattle.tf_walk_action.specs.Outcome.{ActionResultView, Requests, AreOutcomes, AreRequests, call_at, done_at, excused, is_faulted, objects_by}
use Rattle.tf_walk_outputs.specs.Outputs.{OutputResultView, AreOutputsDone, end_of, outputs_after}
use Rattle.tf_walk_outputs.specs.Settled.{AreSettled}
use Rattle.tf_plan_data.specs.Plan.{PlanView, plan_names}
use Rattle.tf_provider_protocol.specs.Meaning.{Meaning}
use Rattle.tf_state.specs.Valid.{IsValid}
use Rattle.tf_state_data.specs.State.{StateView, state_of}
use Rattle.tf_value_data.specs.Tree.{Entries, Tree}
use Rattle.tf_walk_report.specs.Events.{events}
use Rattle.tf_walk_report.specs.Good.{are_good_at}
use Rattle.tf_walk_report.specs.Outcomes.{excuses_from, good_totals, outcome_of}
use Rattle.tf_walk_report.specs.OutputsTold.{output_diagnostics, output_excuses}
use Rattle.tf_walk_report.specs.Savable.{HasNames}
use Rattle.tf_walk_report.specs.declared.report.Report.{Report}
use Rattle.tf_walk_report.specs.declared.report.Walked.{Walked}
use Rattle.tf_walk_report.specs.declared.report.Walked.TheVariants.{Whole, Torn}

-- the objects of instances in outputs: those that the providers returned to all actions, or else the prior ones
abbrev pub objects_after : PlanView → List ActionResultView → ℕ → InstanceKeyView → Tree
objects_after plan done = objects_by plan (seen_by (done_at done) (range_with_len 0 (length plan.actions)))

-- The outcomes of the outputs. An output is evaluated if each name in it is settled. A resource is settled if all its
-- creates and updates are good, or no such action is planned.
abbrev pub AreOutputsOf : PlanView → List ActionResultView → List OutputResultView → Type 0
AreOutputsOf plan done outputs =
    (settled : ℕ → Bool) × AreSettled (plan_names plan) (are_good_at plan.actions done) settled
    × AreOutputsDone plan.variables (plan_names plan) plan.shapes (objects_after plan done) settled plan.config.outputs outputs

-- The state after the actions of a plan, with these outputs. What is known of each instance follows from its actions
-- and metadata updates. What is known of each action before its call is that of the plan, so an object that may become
-- deposed has the key that is given for it.
pub record IsStateOf (ms : List Meaning) (plan : PlanView) (done : List ActionResultView) (outputs : Entries) (s : StateView) : Type 0 where
  pub heads : List Head
  pub are_heads : AreHeads plan plan.actions heads
  pub after : IsStateAfter plan.prior (given_in (events ms plan heads done)) (ends_in (events ms plan heads done)) outputs s

-- A report says what the results of all actions and the outcomes of all outputs are. Its excuses are those of the
-- excused ones. Its outcomes, state, diagnostics and numbers of good actions are those that the rules give. If the
-- addresses of the configuration's blocks consist of names and the prior state is valid, the state is valid, so that
-- its text reads back as it.
pub record IsTold (ms : List Meaning) (plan : PlanView) (done : List ActionResultView) (outputs : List OutputResultView) (report : Report) : Type 0 where
  pub lawful : report.excused.items ≡ excuses_from 0 done ++ output_excuses 0 (map end_of outputs)
  pub outcomes : report.outcomes.items ≡ map outcome_of done
  pub outputs_done : AreOutputsOf plan done outputs
  pub state : IsStateOf ms plan done (outputs_after plan.prior.outputs plan.config.outputs outputs) (state_of report.state)
  pub valid : HasNames plan → IsValid plan.prior → IsValid (state_of report.state)
  pub diagnostics_told : map diagnostic_of report.diagnostics.items ≡ action_diagnostics plan.actions done ++ output_diagnostics plan.config.outputs (map end_of outputs)
  pub good : report.good ≡ good_totals plan.actions done

-- A report on a plan. Each action has the result that the rule gives by those directly before it, with the report's own
-- excuses. If an action was excused during its call, its request had no fault. The report says what all results and
-- outcomes are.
pub record IsReport (ms : List Meaning) (requests : Requests) (plan : PlanView) (done : List ActionResultView) (outputs : List OutputResultView) (report : Report) : Type 0 where
  pub solved : AreOutcomes ms requests plan report.excused.items done
  pub asked : (n : ℕ) → done_at done n ≡ excused during_call → is_faulted (call_at ms requests plan n (seen_by (done_at done) (predecessors_of plan.order n))) ≡ false
  pub told : IsTold ms plan done outputs report

-- the report of a walk, torn or not
abbrev pub report_of : Walked → Report
report_of (Whole report) = report
report_of (Torn report) = report

-- A report agrees with a plan: there is a request or a fault for each of its actions, and the results of the actions
-- and the outcomes of the outputs are what the report says.
pub record IsReported (ms : List Meaning) (plan : PlanView) (report : Report) : Type 0 where
  pub requests : Requests
  pub are_requests : AreRequests plan requests
  pub done : List ActionResultView
  pub outputs : List OutputResultView
  pub is_report : IsReport ms requests plan done outputs report

-- A whole report agrees with a plan, and its journal has exactly the called actions.
pub record IsWhole (ms : List Meaning) (plan : PlanView) (report : Report) : Type 0 where
  pub reported : IsReported ms plan report
  pub journal : IsJournal plan reported.done report.journal.entries

-- What a walk returns: a whole report, with its journal. A walk of one thread doesn't tear its journal.
abbrev pub IsWalked : List Meaning → PlanView → Walked → Type 0
IsWalked ms plan (Whole report) = IsWhole ms plan report
IsWalked ms plan (Torn report) = ⊥
