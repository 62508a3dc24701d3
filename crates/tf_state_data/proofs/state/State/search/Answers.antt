use Rattle.std.proofs.Common.{rules}
use Rattle.std.proofs.lemmas.Fn.{always_returns_same}
use Rattle.tf_config_address.specs.ResourceAddr.{addr_cmp, addr_of}
use Rattle.tf_state_data.proofs.Edits.{by_address, search_answers}
use Rattle.tf_state_data.proofs.state.State.search.Goals as goal

pub returns : goal.returns
returns c =
    let position = c.binary_search_by.ensures.position (λ r. addr_cmp (addr_of r.addr) (addr_of c.args.addr.now)) (always_returns_same _ _ _ (λ a r g called. (search rules, search rules))) in
    let answers = search_answers by_address (addr_of c.args.addr.now) c.args.self.now.resources.items c.binary_search_by.result c.args.self.now.ordered (rw c.deref.ensures.value at c.binary_search_by.ensures.bound) (rw c.deref.ensures.value at position) in
    record { found = answers.0; absent = answers.1 }
