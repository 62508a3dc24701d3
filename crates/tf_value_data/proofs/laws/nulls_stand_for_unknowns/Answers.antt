use Rattle.tf_value_data.proofs.WithNulls.{nulls-known, known-nulls, nulls-refine, nulls-measure}
use Rattle.tf_value_data.proofs.laws.nulls_stand_for_unknowns.Goals as goal

pub returns : goal.returns
returns c = record { known = nulls-known; stays = known-nulls; refines = nulls-refine; measures = nulls-measure }
