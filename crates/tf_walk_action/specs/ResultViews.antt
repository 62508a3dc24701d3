-- The result of an action, as the walk stores it.
use Rattle.std.specs.Prelude.{◌≡◌, ℕ, List, map, Option, Some, None, Contains, ⊤}
use Rattle.tf_plan_object.specs.Instance.{instance_fault_of}
use Rattle.tf_graph.specs.Digraph.{Digraph, predecessors_of}
use Rattle.tf_provider_protocol.specs.Meaning.{Asked, Answer, asked, answered}
use Rattle.tf_provider_protocol.specs.declared.verdict.Verdict.{Verdict}
use Rattle.tf_provider_protocol.specs.declared.verdict.Verdict.TheVariants as verdict
use Rattle.tf_walk_action.specs.Excuse.{before_call, during_call, by_stop}
use Rattle.tf_walk_action.specs.Outcome.{ActionResultView, skipped, excused, faulted, called}
use Rattle.tf_walk_action.specs.declared.action_result.ActionResult.{ActionResult}
use Rattle.tf_walk_action.specs.declared.action_result.ActionResult.TheVariants as ended

abbrev pub action_result_of : ActionResult → ActionResultView
action_result_of (ended.Skipped w b) = skipped
action_result_of (ended.NotAsked w u) = excused before_call
action_result_of (ended.NotServed u t) = excused during_call
action_result_of (ended.Left w s) = excused by_stop
action_result_of (ended.Faulted f w) = faulted (instance_fault_of f.fault)
action_result_of (ended.Called s) = called (asked s.call.request) (answered s.call.reply) s.call.verdict

-- the action of a result, as the evidence in it says
abbrev pub ended_action : ActionResult → ℕ
ended_action (ended.Skipped w b) = w
ended_action (ended.NotAsked w u) = w
ended_action (ended.NotServed u t) = u
ended_action (ended.Left w s) = w
ended_action (ended.Faulted f w) = w
ended_action (ended.Called s) = s.call.action

-- If an action was skipped, one directly before it isn't good, as the evidence in the result says.
abbrev pub HasCause : Digraph → ActionResult → Type 0
HasCause order (ended.Skipped w b) = Contains (predecessors_of order w) b
HasCause order _ = ⊤

-- A result that depends on a look at a walk's flag has the evidence of a look at the flag with this mark: that it was set, if
-- the action was left; that it wasn't, if the provider was called.
abbrev pub IsByFlag : ℕ → ActionResult → Type 0
IsByFlag flag (ended.NotServed u t) = t ≡ flag
IsByFlag flag (ended.Left w s) = s ≡ flag
IsByFlag flag (ended.Called s) = s.in_time ≡ flag
IsByFlag flag _ = ⊤

-- the result of an action if it is known; otherwise it counts as skipped
abbrev pub result_or_skipped : Option ActionResult → ActionResultView
result_or_skipped None = skipped
result_or_skipped (Some e) = action_result_of e

-- the results of some actions
abbrev pub action_results_of : List (Option ActionResult) → List ActionResultView
action_results_of results = map result_or_skipped results

-- The result of a call, by the verdict on its answer: if the provider had no memory, the action is excused.
abbrev pub result_by : Asked → Option Answer → Verdict → ActionResultView
result_by q a verdict.Excused = excused during_call
result_by q a v = called q a v
