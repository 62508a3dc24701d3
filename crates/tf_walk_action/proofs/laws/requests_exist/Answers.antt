use Rattle.tf_walk_action.proofs.RequestsExist.{requests_exist, requests_one}
use Rattle.tf_walk_action.proofs.laws.requests_exist.Goals as goal

pub returns : goal.returns
returns c = record {
  exist = requests_exist c.resolved_names_are_one.ensures.exist c.resolved_names_are_one.ensures.one;
  one = requests_one c.resolved_names_are_one.ensures.exist;
}
