-- the values are dropped, or hold for the action too
use Rattle.std.proofs.Common.{◌∙◌, List, ap}
use Rattle.tf_expand_keys.specs.declared.resolved.Resolved.{Resolved}
use Rattle.tf_plan_data.specs.Plan.{plan_of}
use Rattle.tf_walk_requests.proofs.Asking.{empty_so_far}
use Rattle.tf_walk_requests.proofs.Memos.{holds_for}
use Rattle.tf_walk_requests.specs.declared.memo.Memo.{Memo}
use Rattle.tf_walk_requests.proofs.memo.Memo.begin.Goals as goal
use Rattle.tf_walk_requests.proofs.memo.Memo.begin.Goals.{then-not-holds_for, else-not-holds_for}

pub returns-clause-holds : goal.returns-clause-holds
returns-clause-holds c objects h =
    let plan = plan_of c.args.plan.now in
    elim c.if-not-holds_for.branch [
      | then-not-holds_for w ↦ (c.requires.within, empty_so_far plan _ c.if-not-holds_for.self.kept.items (ap (λ (m : Memo). m.kept.items) w.self-is ∙ w.clear.ensures.items))
      | else-not-holds_for w ↦ rw w.self-is (holds_for plan objects c.args.self.now.action c.args.self.now.kept.items c.args.action c.requires.within (rw (← c.graph.ensures.graph) (c.holds_for.ensures.0 w.if-not-holds_for.false)) h)
    ]
