-- The outcomes of outputs by the results of actions, and the buffers for them.
use Rattle.std.specs.Prelude.{◌≡◌, ◌≤◌, ℕ, Bool, List, [], length, vec_capacity}
use Rattle.tf_config_data.specs.Names.{NameView}
use Rattle.tf_expand_keys.specs.InstanceKeys.{InstanceKeysView}
use Rattle.tf_graph.specs.Solutions.{seen_by}
use Rattle.tf_walk_action.specs.Outcome.{ActionResultView, done_at, objects_seen}
use Rattle.tf_walk_outputs.specs.Outputs.{AreOutputsEnded}
use Rattle.tf_walk_outputs.specs.Buffers.{HavePlaces, outputs_in}
use Rattle.tf_walk_outputs.specs.Settled.{AreSettled}
use Rattle.tf_plan_data.specs.Action.{ActionView}
use Rattle.tf_state_data.specs.State.{StateView, outputs_of}
use Rattle.tf_value_data.specs.Stored.{IsTable}
use Rattle.tf_value_data.specs.Tree.{Entries}
use Rattle.tf_walk_report.specs.Good.{are_good_at}
use Rattle.tf_walk_report.specs.declared.settling.OutputValues.{OutputValues}
use Rattle.tf_walk_report.specs.declared.settling.Settling.{Settling}

-- there is space for each name and each output
pub record IsReady (names : List NameView) (s : Settling) : Type 0 where
  pub good : length s.good.items ≡ length names
  pub settled : length s.settled.items ≡ length names
  pub places : HavePlaces names s.rooms.items
  pub none : s.ends.items ≡ []
  pub room : length s.rooms.items ≤ vec_capacity s.ends

-- The outputs have ended as the settled names and the returned objects require. Their values may be stored if the prior
-- ones may be.
pub record AreEnded (variables : Entries) (names : List NameView) (shapes : ℕ → InstanceKeysView) (prior : StateView) (actions : List ActionView) (done : List ActionResultView) (s : Settling) (o : OutputValues) : Type 0 where
  pub settled : ℕ → Bool
  pub are_settled : AreSettled names (are_good_at actions done) settled
  pub ended : AreOutputsEnded variables names shapes (objects_seen names prior actions (seen_by (done_at done) s.seen.items)) settled (outputs_of s.kept.entries) (outputs_in s.rooms.items) o.ends.items (outputs_of o.values.entries)
  pub stored : IsTable (outputs_of s.kept.entries) → IsTable (outputs_of o.values.entries)
