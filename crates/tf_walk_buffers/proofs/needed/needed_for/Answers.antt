use Rattle.std.proofs.Common.{◌∙◌, ap, length, List, map}
use Rattle.std.proofs.lemmas.Result.{IfOk-weaker}
use Rattle.tf_config_data.specs.Names.{NameView}
use Rattle.tf_plan_data.specs.Action.{action_of}
use Rattle.tf_plan_data.specs.Plan.{plan_of}
use Rattle.tf_walk_buffers.proofs.Asking.{listed-for}
use Rattle.tf_walk_buffers.proofs.needed.needed_for.Goals as goal

pub returns : goal.returns
returns c =
    let plan = plan_of c.args.plan.now in
    let asked = c.in_ok-asked.asked in
    let long = c.in_ok-asked.ensures.length ∙ c.len.ensures ∙ ap (λ (xs : List NameView). length xs) c.requires.names in
    IfOk-weaker c.needed_lists.result _ _
    (λ lists h. listed-for plan asked lists.items (map action_of c.args.plan.now.actions.items) long (rw (← c.requires.names) h) c.requires.declared (rw (← c.as_slice.ensures.value) c.in_ok-asked.ensures.asked))
    c.needed_lists.ensures
