use Rattle.std.proofs.Common.{◌≡◌, List, ap, ◌∙◌, map}
use Rattle.std.specs.List.{insert}
use Rattle.std.specs.Prelude.{Some, is_ok}
use Rattle.tf_state_data.specs.Resource.{ResourceView, resource_of}
use Rattle.tf_state_data.specs.State.{state_of}
use Rattle.tf_state_data.proofs.Edits.{by_address, element_found, put_over, put_between, put_over_ordered, put_between_ordered}
use Rattle.tf_state_data.proofs.state.State.put.Goals as goal

-- what is put in place of another
pub invariant_of-self : goal.invariant_of-self
invariant_of-self c =
    record { ordered = put_over_ordered by_address c.args.self.now.resources.items c.args.resource _ c.in-Ok.index (rw c.addr.ensures at c.in-Ok.ensures.found) c.replace.ensures.after c.args.self.now.ordered }

pub returns-in-Ok-clause-put : goal.returns-in-Ok-clause-put
returns-in-Ok-clause-put c =
    let is = put_over by_address c.args.self.now.resources.items c.args.resource _ c.in-Ok.index (rw c.addr.ensures at c.in-Ok.ensures.found) c.replace.ensures.after in
    ap (λ (rs : List ResourceView). record (state_of c.args.self.now) { resources = rs }) is

pub returns-in-Ok-clause-replaced : goal.returns-in-Ok-clause-replaced
returns-in-Ok-clause-replaced c =
    ap (λ r. Some (resource_of r)) c.replace.ensures.value
    ∙ element_found by_address (resource_of c.args.resource).addr c.args.self.now.resources.items c.in-Ok.index c.index_mut.result.now (rw c.addr.ensures at c.in-Ok.ensures.found) c.index_mut.ensures.value

-- what is put between others, if there was memory
pub invariant_of-self-in-Err : goal.invariant_of-self-in-Err
invariant_of-self-in-Err c =
    record { ordered = put_between_ordered by_address c.args.self.now.resources.items c.insert.new.self.items c.args.resource c.in-Err.index (is_ok c.insert.result) (rw c.addr.ensures at c.in-Err.ensures.absent) c.insert.ensures.items c.args.self.now.ordered }

pub returns-in-Err-clause-put : goal.returns-in-Err-clause-put
returns-in-Err-clause-put c =
    let items = c.args.self.now.resources.items in
    let put : c.insert.new.self.items ≡ insert items c.in-Err.index c.args.resource = rw c.unwrap.ensures at c.insert.ensures.items in
    let is = ap (map resource_of) put ∙ put_between by_address items c.args.resource c.in-Err.index (rw c.addr.ensures at c.in-Err.ensures.absent) in
    ap (λ (rs : List ResourceView). record (state_of c.args.self.now) { resources = rs }) is
