use Rattle.std.proofs.Common.{◌≡◌, ◌+◌, ◌/◌, ℕ, ap, ◌∙◌, get_or, replicate}
use Rattle.tf_graph.proofs.Bits.{length-set_of_bits, has-none, get_or-zeros}
use Rattle.tf_graph.proofs.node_set.NodeSet.new.Goals as goal

pub returns-clause-length : goal.returns-clause-length
returns-clause-length c = length-set_of_bits c.in_ok-words.words.items c.args.count

pub returns-clause-members : goal.returns-clause-members
returns-clause-members c =
    let zeros : c.in_ok-words.words.items ≡ replicate {A = ℕ} (c.args.count / 64 + 1) 0 = c.in_ok-words.ensures.items_if_clones_equal (λ y e. e) in
    has-none c.in_ok-words.words.items c.args.count (λ i. ap (λ xs. get_or xs i 0) zeros ∙ get_or-zeros (c.args.count / 64 + 1) i)
