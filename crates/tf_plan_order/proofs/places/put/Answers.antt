use Rattle.tf_config_data.specs.Names.{addr_pair}
use Rattle.tf_plan_order.proofs.places.put.Goals as goal

pub returns-in_ok-put-in-Some : goal.returns-in_ok-put-in-Some
returns-in_ok-put-in-Some c = λ addr. rw (← c.in-Some.ensures) (rw (c.as_str.ensures.value, c.as_str-in-Some.ensures.value) at (c.in_ok-put-in-Some.ensures (addr_pair addr)))
