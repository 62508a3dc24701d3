use Rattle.tf_plan_order.proofs.Naming.{addresses-named}
use Rattle.tf_plan_order.proofs.resource_laws.addresses_are_named.Goals as goal

pub returns : goal.returns
returns c = addresses-named
