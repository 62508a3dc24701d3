use Rattle.std.proofs.Common.{List, ap}
use Rattle.tf_config_address.specs.ObjectId.{object_id_of}
use Rattle.tf_state_data.specs.Record.{RecordView}
use Rattle.tf_state_data.specs.Resource.{resource_of}
use Rattle.tf_state_data.proofs.Edits.{by_id, element_found, taken_out, taken_out_ordered}
use Rattle.tf_state_data.proofs.resource.Resource.remove.Goals as goal

pub invariant_of-self : goal.invariant_of-self
invariant_of-self c =
    record { ordered = taken_out_ordered by_id (object_id_of c.args.id.now) c.args.self.now.records.items _ c.in-Ok.index c.in-Ok.ensures.found c.remove.ensures.items c.args.self.now.ordered }

pub returns-in-Ok-clause-taken : goal.returns-in-Ok-clause-taken
returns-in-Ok-clause-taken c = element_found by_id (object_id_of c.args.id.now) c.args.self.now.records.items c.in-Ok.index c.remove.result c.in-Ok.ensures.found c.remove.ensures.value

pub returns-in-Ok-clause-left : goal.returns-in-Ok-clause-left
returns-in-Ok-clause-left c =
    let is = taken_out by_id (object_id_of c.args.id.now) c.args.self.now.records.items _ c.in-Ok.index c.in-Ok.ensures.found c.remove.ensures.items in
    ap (λ (rs : List RecordView). record (resource_of c.args.self.now) { records = rs }) is
