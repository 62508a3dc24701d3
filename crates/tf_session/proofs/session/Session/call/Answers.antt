-- one call more has ended
use Rattle.std.proofs.Common.{◌∙◌, [], refl, sym}
use Rattle.tf_provider_protocol.specs.Meaning.{asked}
use Rattle.tf_session.proofs.Kept.{always, continues_calls, continues_on, continues_same, or_left}
use Rattle.tf_session.proofs.Served.{taken_answered, taken_begun}
use Rattle.tf_session.proofs.session.Session.call.Goals as goal

pub returns-then-has_begun-clause-taken_up : goal.returns-then-has_begun-clause-taken_up
returns-then-has_begun-clause-taken_up g c = taken_begun _ (asked c.args.request) c.args.self.now.calls (sym c.has_begun.ensures ∙ c.if-has_begun.true)

pub returns-clause-continues : goal.returns-clause-continues
returns-clause-continues g c =
    continues_on _ c.answer.result c.args.self.now c.close.new.self _ (continues_same [] _ _ (c.close.ensures.same.0, c.close.ensures.same.1) (λ e. c.close.ensures.closed ∙ or_left _ _ e))
    (always c.answer.result _ (continues_calls _ c.close.new.self _ refl (λ e. e) c.answer.ensures.others.0 c.answer.ensures.kept c.answer.ensures.only))

pub returns-clause-taken_up : goal.returns-clause-taken_up
returns-clause-taken_up g c = taken_answered _ _ c.answer.result c.args.request c.call_provider-reply.result c.answer.new.self c.close.new.self.calls.entries.items c.answer.ensures.answered
