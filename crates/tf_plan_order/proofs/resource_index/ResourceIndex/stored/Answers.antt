use Rattle.std.proofs.Common.{◌∙◌}
use Rattle.tf_plan_order.proofs.Naming.{pairs-within}
use Rattle.tf_plan_order.specs.Table.{numbered_in, resources_in}
use Rattle.tf_plan_order.proofs.resource_index.ResourceIndex.stored.Goals as goal

pub new-requires-clause-within : goal.new-requires-clause-within
new-requires-clause-within c =
    rw (c.as_slice.ensures.value ∙ c.in_ok-pairs.ensures, c.len.ensures) (pairs-within (numbered_in c.args.self.now) (resources_in c.args.self.now))
