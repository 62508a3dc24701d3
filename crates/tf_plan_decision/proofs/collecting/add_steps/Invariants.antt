use Rattle.std.proofs.Common.{◌≡◌, ◌++◌, map}
use Rattle.std.specs.Vec.Iter.{into_iter_items}
use Rattle.tf_plan_data.specs.Action.{action_of, step_of}
use Rattle.tf_config_address.specs.ObjectId.{instance_key_of}
use Rattle.tf_plan_decision.proofs.collecting.add_steps.Given as goal
use Rattle.tf_plan_decision.specs.Deciding.{action, of_view}

abbrev pub invariant-loop-step : goal.invariant-loop-step
invariant-loop-step l = record {
  actions :
      map action_of l.decided.actions.items ++ map (action (of_view l.of) l.instance (instance_key_of l.key)) (map step_of (into_iter_items l.step-iterator))
      ≡ map action_of l.fn.decided.actions.items ++ map (action (of_view l.of) l.instance (instance_key_of l.key)) (map step_of l.fn.steps.items);
  refusals : l.decided.refusals.items ≡ l.fn.decided.refusals.items;
}
