-- the resources of the actions so far
use Rattle.std.proofs.Common.{◌≡◌, map, take}
use Rattle.tf_plan_data.specs.Action.{action_of}
use Rattle.tf_config_address.specs.ResourceAddr.{addr_of}
use Rattle.tf_walk_report.specs.Reserved.{applied_addrs}
use Rattle.tf_walk_report.proofs.reserving.addrs_of.Given as goal

abbrev pub invariant-loop-action : goal.invariant-loop-action
invariant-loop-action l = map (λ x. addr_of x.now) l.addrs.items ≡ applied_addrs (map action_of (take l.action-index l.actions))
