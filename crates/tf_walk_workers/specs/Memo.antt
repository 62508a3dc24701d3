-- What a worker remembers of its requests.
use Rattle.std.specs.Prelude.{◌<◌, List, map}
use Rattle.tf_plan_data.specs.Action.{action_of}
use Rattle.tf_walk_action.specs.SoFar.{ResolvedSoFar}
use Rattle.tf_walk_workers.specs.SeenResult.{seen_result_of}
use Rattle.tf_config_data.specs.Names.{NameView}
use Rattle.tf_config_names.specs.Table.{names_in}
use Rattle.tf_walk_action.specs.Objects.{objects_seen}
use Rattle.tf_plan_data.specs.Plan.{PlanView, plan_of}
use Rattle.tf_plan_data.specs.declared.plan.Plan.{Plan}
use Rattle.tf_provider_protocol.specs.Meaning.{Meaning}
use Rattle.tf_state_data.specs.State.{state_of}
use Rattle.tf_walk_workers.specs.Seen.{AreSeen}
use Rattle.tf_walk_workers.specs.declared.memo.Memo.{Memo}

-- A memo of an action of a plan is true: all actions directly before that one are good and their results are read,
-- and the values of names so far are right by these results.
pub record IsTrueMemo {N : Type 0} (ms : List Meaning) (walk : PlanView) (plan : Plan) (names : List NameView) (memo : Memo N) : Type 0 where
  pub inside : memo.action < plan.order.nodes
  pub seen : AreSeen ms walk plan names memo.action memo.before
  pub so_far : ResolvedSoFar (plan_of plan) (objects_seen (names_in memo.before.names.now) (state_of memo.before.prior.now) (map action_of memo.before.actions.now) (seen_result_of memo.before)) memo.kept.items
