use Rattle.std.proofs.Common.{◌≡◌, map, string_bytes, rules}
use Rattle.tf_walk_buffers.specs.Dependencies.{dependencies}
use Rattle.tf_plan_data.specs.Plan.{plan_names, plan_of}
use Rattle.tf_walk_buffers.proofs.updating.update_of.Goals as goal

pub dependencies_listed-requires-clause-within : goal.dependencies_listed-requires-clause-within
dependencies_listed-requires-clause-within c = λ m h. rw c.requires.names (c.requires.listed.within m h)

pub returns : goal.returns
returns c =
    let plan = plan_of c.args.plan.now in
    let needed : map string_bytes c.in_ok-dependencies_listed.field-0.keys ≡ dependencies plan.needs (plan_names plan) c.args.unchanged.now.number =
    rw c.requires.names at (c.in_ok-dependencies_listed.ensures plan.needs (rw c.requires.names c.requires.listed.listed)) in
    search (needed, rules)
