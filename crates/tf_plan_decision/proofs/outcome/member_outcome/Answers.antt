use Rattle.tf_plan_decision.proofs.outcome.member_outcome.Goals as goal

pub returns-then-member : goal.returns-then-member
returns-then-member g c = λ addr. rw (c.in-Some.is, c.if-member.true) (c.declared_outcome.ensures addr)
