use Rattle.std.proofs.Common.{◌≡◌, ◌∙◌, false, sym, arith}
use Rattle.std.proofs.lemmas.List.{get_or_read}
use Rattle.tf_graph.specs.NodeSet.{has}
use Rattle.tf_plan_order.proofs.Spreading.{unfound-set}
use Rattle.tf_plan_order.proofs.late.find.Goals as goal

pub returns-in_ok-push-clause-smaller : goal.returns-in_ok-push-clause-smaller
returns-in_ok-push-clause-smaller c =
    let late = c.args.search.now.late.items in
    let was : has late c.args.resource ≡ false = sym (get_or_read late c.args.resource _ c.requires c.index.ensures false) ∙ c.if-not-index.true in
    let fewer = unfound-set late c.args.resource c.requires was in
    omega (arith, fewer, c.in_ok-push.ensures.len)
