-- the request has ended
use Rattle.std.proofs.Common.{◌∙◌, [], refl}
use Rattle.tf_session.proofs.Kept.{continues_calls, continues_same, continues_then, noted_at, or_left}
use Rattle.tf_session.proofs.session.Session.take.Goals as goal

pub returns-clause-continues : goal.returns-clause-continues
returns-clause-continues g c =
    continues_then [] c.args.self.now c.close.new.self _ (continues_same [] _ _ (c.close.ensures.same.0, c.close.ensures.same.1) (λ e. c.close.ensures.closed ∙ or_left _ _ e))
    (continues_calls [] c.close.new.self _ refl (λ e. e) c.end_at.ensures.waiting c.end_at.ensures.kept c.end_at.ensures.only)

pub returns-clause-noted : goal.returns-clause-noted
returns-clause-noted g c =
    noted_at _ c.args.provider c.args.response.id c.in-Ok.place c.args.response.reply c.args.self.now.calls c.end_at.new.self (rw c.flights.ensures at c.in-Ok.ensures.0) (rw c.flights.ensures at c.in-Ok.ensures.1) (rw (c.close.ensures.same.1, c.in-Ok-log_reply.ensures.1) at c.end_at.ensures.noted)
