-- at first nothing stands
use Rattle.tf_plan_data.specs.Plan.{plan_of}
use Rattle.tf_walk_requests.proofs.Asking.{empty_so_far}
use Rattle.tf_plan.proofs.requesting.prepared_call.Goals as goal

pub request_of-requires-clause-so_far : goal.request_of-requires-clause-so_far
request_of-requires-clause-so_far g c = empty_so_far (plan_of c.args.plan.now) _ c.new-kept.result.items c.new-kept.ensures.items
