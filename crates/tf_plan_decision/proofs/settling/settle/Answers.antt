use Rattle.std.proofs.Common.{◌∙◌, ◌+◌, ◌++◌, ◌∷◌, ap, drop, map, option_map, sym}
use Rattle.std.proofs.lemmas.List.{at_drop_more}
use Rattle.tf_config_address.specs.ResourceAddr.{addr_of}
use Rattle.tf_config_data.specs.Config.{block_at}
use Rattle.tf_plan_decision.proofs.Finding.{one_settled}
use Rattle.tf_plan_decision.proofs.settling.settle.Goals as goal
use Rattle.tf_plan_decision.specs.Outcome.{member_outcome}
use Rattle.tf_plan_decision.specs.Settling.{SettledView, settled_from, settled_of}
use Rattle.tf_plan_order.specs.MemberViews.{member_of}

pub loop-instance-preserved : goal.loop-instance-preserved
loop-instance-preserved g c =
    let addr = addr_of c.args.resource.now.addr.now in
    let becomes = member_outcome (option_map (λ s. s.now) c.args.schema) (block_at addr c.args.resource.now.block.now) (g.S.Scope.environment c.args.resource.now.scope.now) in
    let members = c.args.members.now in
    let member = c.index-members-instance.result in
    let i = c.loop-instance.instance in
    let old = c.loop-instance.settled.items in
    let s : SettledView = record { instance = i; member = member_of member; outcome = becomes (member_of member) } in
    let here = at_drop_more (λ xs. map settled_of old ++ settled_from becomes i (map member_of xs)) members i member c.loop-instance-test.true in
    one_settled old c.push.new.self.items _ s (settled_from becomes (i + 1) (map member_of (drop (i + 1) members))) c.in_ok-push.ensures.items
    (λ j. record { instance = i; member = member_of member; outcome = c.in_ok-outcome.ensures addr j })
    ∙ (ap (λ m. map settled_of old ++ settled_from becomes i (map member_of (m ∷ drop (i + 1) members))) c.index-members-instance.is ∙ (sym here ∙ c.loop-instance.invariant))
