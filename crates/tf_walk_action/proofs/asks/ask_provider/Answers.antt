use Rattle.std.proofs.Common.{◌≡◌, Some, map, sym}
use Rattle.tf_plan_data.specs.Action.{action_of}
use Rattle.tf_plan_data.specs.Plan.{plan_of}
use Rattle.tf_provider_protocol.specs.Meaning.{schema_in}
use Rattle.tf_walk_action.specs.AskedBy.{asked_by}
use Rattle.tf_walk_action.proofs.AskedRight.{asked-with}
use Rattle.tf_walk_action.proofs.asks.ask_provider.Goals as goal

pub returns-in-Ok-clause-asked : goal.returns-in-Ok-clause-asked
returns-in-Ok-clause-asked g c = λ requests are.
    let ms = map (λ b. (goal.Provider-dyn g (b.vtable, b.value)).meaning b.value) c.args.providers.now in
    let plan = plan_of c.args.plan.now in
    let a = action_of c.args.action.now in
    let objects = g.R.Results.objects c.args.results.now in
    let there : schema_in a.addr.type_name ms ≡ Some c.in-Some.schema.now = sym (rw c.as_str.ensures.value at c.in-Some.ensures) in
    asked-with ms requests plan objects a c.in-Some.schema.now (asked_by c.in-Ok.made) there (c.in-Ok.ensures.asked requests are)
