use Rattle.std.proofs.Common.{◌≡◌, List, ap, ◌∙◌, map}
use Rattle.std.specs.List.{insert}
use Rattle.std.specs.Prelude.{Some, is_ok}
use Rattle.tf_state_data.specs.Record.{RecordView, record_of}
use Rattle.tf_state_data.specs.Resource.{resource_of}
use Rattle.tf_state_data.proofs.Edits.{by_id, element_found, put_over, put_between, put_over_ordered, put_between_ordered}
use Rattle.tf_state_data.proofs.resource.Resource.put.Goals as goal

-- what is put in place of another
pub invariant_of-self : goal.invariant_of-self
invariant_of-self c =
    record { ordered = put_over_ordered by_id c.args.self.now.records.items c.args.new _ c.in-Ok.index c.in-Ok.ensures.found c.replace.ensures.after c.args.self.now.ordered }

pub returns-in-Ok-clause-put : goal.returns-in-Ok-clause-put
returns-in-Ok-clause-put c =
    let is = put_over by_id c.args.self.now.records.items c.args.new _ c.in-Ok.index c.in-Ok.ensures.found c.replace.ensures.after in
    ap (λ (rs : List RecordView). record (resource_of c.args.self.now) { records = rs }) is

pub returns-in-Ok-clause-replaced : goal.returns-in-Ok-clause-replaced
returns-in-Ok-clause-replaced c =
    ap (λ r. Some (record_of r)) c.replace.ensures.value
    ∙ element_found by_id (record_of c.args.new).id c.args.self.now.records.items c.in-Ok.index c.index_mut.result.now c.in-Ok.ensures.found c.index_mut.ensures.value

-- what is put between others, if there was memory
pub invariant_of-self-in-Err : goal.invariant_of-self-in-Err
invariant_of-self-in-Err c =
    record { ordered = put_between_ordered by_id c.args.self.now.records.items c.insert.new.self.items c.args.new c.in-Err.index (is_ok c.insert.result) c.in-Err.ensures.absent c.insert.ensures.items c.args.self.now.ordered }

pub returns-in-Err-clause-put : goal.returns-in-Err-clause-put
returns-in-Err-clause-put c =
    let items = c.args.self.now.records.items in
    let put : c.insert.new.self.items ≡ insert items c.in-Err.index c.args.new = rw c.unwrap.ensures at c.insert.ensures.items in
    let is = ap (map record_of) put ∙ put_between by_id items c.args.new c.in-Err.index c.in-Err.ensures.absent in
    ap (λ (rs : List RecordView). record (resource_of c.args.self.now) { records = rs }) is
