use Rattle.tf_expand_keys.proofs.Unknowns.{all_standing}
use Rattle.tf_expand_keys.proofs.expansion_laws.all_stand_where_none_is_refused.Goals as goal

pub returns : goal.returns
returns c = all_standing
