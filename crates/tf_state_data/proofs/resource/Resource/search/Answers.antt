use Rattle.std.proofs.Common.{rules}
use Rattle.std.proofs.lemmas.Fn.{always_returns_same}
use Rattle.tf_config_address.specs.ObjectId.{object_id_cmp, object_id_of}
use Rattle.tf_state_data.proofs.Edits.{by_id, search_answers}
use Rattle.tf_state_data.proofs.resource.Resource.search.Goals as goal

-- the closure compares keys, and the slice has the elements
pub returns : goal.returns
returns c =
    let position = c.binary_search_by.ensures.position (λ r. object_id_cmp (object_id_of r.id) (object_id_of c.args.id.now)) (always_returns_same _ _ _ (λ a r g called. (search rules, search rules))) in
    let answers = search_answers by_id (object_id_of c.args.id.now) c.args.self.now.records.items c.binary_search_by.result c.args.self.now.ordered (rw c.deref.ensures.value at c.binary_search_by.ensures.bound) (rw c.deref.ensures.value at position) in
    record { found = answers.0; absent = answers.1 }
