use Rattle.std.proofs.Common.{length, ap, arith}
use Rattle.tf_config_names.specs.Table.{names_in}
use Rattle.tf_plan_order.proofs.Standing.{numbers-few}
use Rattle.tf_state_data.specs.State.{state_of}
use Rattle.tf_plan_planner.proofs.planner.plan_parts.Goals as goal

pub plan_given-requires-clause-few : goal.plan_given-requires-clause-few
plan_given-requires-clause-few g c =
    let names = names_in c.in_ok-names.names in
    let resources = (state_of c.args.prior.now).resources in
    let few = numbers-few names resources in
    let all = ap length c.in_ok-resource_index.ensures.numbered in
    let own = ap length c.in_ok-names.ensures in
    let asked = c.requires.few in
    omega (arith, few, all, own, asked)
