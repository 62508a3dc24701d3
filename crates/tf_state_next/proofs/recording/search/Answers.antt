use Rattle.std.proofs.Common.{rules}
use Rattle.std.proofs.lemmas.Fn.{always_returns_same}
use Rattle.tf_config_address.specs.ResourceAddr.{addr_cmp, addr_of}
use Rattle.tf_state_data.proofs.Edits.{by_address, search_answers}
use Rattle.tf_state_next.proofs.recording.search.Goals as goal

-- the closure compares keys, and the slice has the elements
pub returns : goal.returns
returns c =
    let position = c.binary_search_by.ensures.position (λ r. addr_cmp (addr_of r.addr) (addr_of c.args.addr.now)) (always_returns_same _ _ _ (λ a r g called. (search rules, search rules))) in
    let answers = search_answers by_address (addr_of c.args.addr.now) c.args.resources.now c.binary_search_by.result c.requires c.binary_search_by.ensures.bound position in
    record { found = answers.0; absent = answers.1 }
