-- no action so far asks for an object of the instance
use Rattle.std.proofs.Common.{◌≡◌, drop, map}
use Rattle.tf_config_address.specs.ObjectId.{instance_key_of}
use Rattle.tf_plan_data.specs.Action.{action_of}
use Rattle.tf_plan_outputs.specs.Objects.{asked_by}
use Rattle.tf_plan_outputs.proofs.objects.asked_by.Given as goal

abbrev pub invariant-loop-action : goal.invariant-loop-action
invariant-loop-action l = asked_by l.place (instance_key_of l.key) (map action_of (drop l.action-index l.actions)) ≡ asked_by l.place (instance_key_of l.key) (map action_of l.actions)
