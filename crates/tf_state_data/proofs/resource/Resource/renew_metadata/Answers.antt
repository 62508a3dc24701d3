use Rattle.std.proofs.Common.{◌≡◌, List, Option, Some, refl, sym, ap, ◌∙◌, map, string_bytes}
use Rattle.std.specs.Option.{option_map_or}
use Rattle.tf_config_address.specs.ObjectId.{object_id_of}
use Rattle.tf_state_data.specs.Record.{RecordView, record_of}
use Rattle.tf_state_data.specs.Resource.{record_at, resource_of, with_record}
use Rattle.tf_state_data.specs.declared.record.Record.{Record}
use Rattle.tf_state_data.proofs.Edits.{by_id, element_found, put_over, put_over_ordered}
use Rattle.tf_state_data.proofs.resource.Resource.renew_metadata.Goals as goal

pub invariant_of-self : goal.invariant_of-self
invariant_of-self c =
    let old = c.index_mut-record.result.now in
    let new : Record = record old { id = c.args.id; dependencies = c.args.dependencies; create_before_destroy = c.args.create_before_destroy } in
    record { ordered = put_over_ordered by_id c.args.self.now.records.items new new c.in-Ok.index c.in-Ok.ensures.found refl c.args.self.now.ordered }

pub returns-in-Ok-clause-renewed : goal.returns-in-Ok-clause-renewed
returns-in-Ok-clause-renewed c =
    let items = c.args.self.now.records.items in
    let r = resource_of c.args.self.now in
    let old = c.index_mut-record.result.now in
    let new : Record = record old { id = c.args.id; dependencies = c.args.dependencies; create_before_destroy = c.args.create_before_destroy } in
    let found : record_at (object_id_of c.args.id) r.records ≡ Some (record_of old) = sym (element_found by_id (object_id_of c.args.id) items c.in-Ok.index old c.in-Ok.ensures.found c.index_mut-record.ensures.value) in
    ap (λ (rs : List RecordView). record r { records = rs }) (put_over by_id items new new c.in-Ok.index c.in-Ok.ensures.found refl)
    ∙ sym (ap (λ (o : Option RecordView). option_map_or (λ x. with_record (record x { id = object_id_of c.args.id; dependencies = map string_bytes c.args.dependencies.keys; create_before_destroy = c.args.create_before_destroy }) r) o r) found)
