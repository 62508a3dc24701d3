use Rattle.tf_config_address.specs.ObjectId.{object_id_of}
use Rattle.tf_state_data.proofs.Edits.{by_id, element_found}
use Rattle.tf_state_data.proofs.resource.Resource.record.Goals as goal

pub returns-in-Ok : goal.returns-in-Ok
returns-in-Ok c = element_found by_id (object_id_of c.args.id.now) c.args.self.now.records.items c.in-Ok.index c.index.result.now c.in-Ok.ensures.found c.index.ensures
