use Rattle.tf_laws.proofs.Schemas.{local_file_has_schemas, sim_has_schemas}
use Rattle.tf_laws.proofs.texts.programs_have_schemas.Goals as goal

pub returns : goal.returns
returns c = (sim_has_schemas, (local_file_has_schemas, tt))
