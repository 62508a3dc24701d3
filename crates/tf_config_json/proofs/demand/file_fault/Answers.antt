use Rattle.tf_config_refusal.proofs.Places.{place_of-Root, place_of-Member}
use Rattle.tf_config_json.proofs.demand.file_fault.Goals as goal

pub returns : goal.returns
returns c = rw (place_of-Member, place_of-Root) at c.fault_at.ensures
