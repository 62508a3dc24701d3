use Rattle.tf_plan_order.proofs.Listing.{are_one, are_there}
use Rattle.tf_plan_order.proofs.member_laws.members_are_one_list.Goals as goal

pub returns-clause-there : goal.returns-clause-there
returns-clause-there c = are_there

pub returns-clause-one : goal.returns-clause-one
returns-clause-one c = are_one
