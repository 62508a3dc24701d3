use Rattle.tf_laws.proofs.Keys.{Laws, applies_keep_instances, instances_expanded, keys_stay_in_plans, keys_stay_in_requests, plans_keep_instances}
use Rattle.tf_laws.proofs.requests.instances_are_as_expanded.Goals as goal

pub returns : goal.returns
returns c =
    let laws : Laws =
    record {
      one = c.resolved_names_are_one.ensures.one;
      grow = c.resolved_names_grow.ensures.resolved_names;
      instances = c.instances_stay.ensures.instances;
      meaning = c.expr_knowledge_grows.ensures;
      stands = c.all_stand_where_none_is_refused.ensures;
    } in
    record { expanded = instances_expanded laws; plans = plans_keep_instances laws; applies = applies_keep_instances laws; planned_keys = keys_stay_in_plans laws; requested_keys = keys_stay_in_requests laws }
