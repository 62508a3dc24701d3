use Rattle.std.proofs.Common.{◌∙◌, sym, ap}
use Rattle.tf_plan_data.specs.Action.{action_of}
use Rattle.tf_plan_object.specs.Instance.{instance_of}
use Rattle.tf_walk_action.specs.Asked.{create_of, unless_faulty}
use Rattle.tf_walk_action.proofs.objects.RequestBuilder.ask_create.Goals as goal

pub returns-in_ok-creating-in-Ok-clause-asked : goal.returns-in_ok-creating-in-Ok-clause-asked
returns-in_ok-creating-in-Ok-clause-asked g c = λ requests are.
    let made = ap instance_of (sym c.in-Ok.is) ∙ c.in_ok-object.ensures.made requests are in
    let told = ap (unless_faulty (create_of (action_of c.args.self.now.action.now))) made in
    rw c.in_ok-creating-in-Ok.ensures told
