-- there is room, and the request waits
use Rattle.std.proofs.Common.{◌∙◌, refl, sym}
use Rattle.tf_provider_protocol.specs.Meaning.{asked}
use Rattle.tf_session.proofs.Kept.{always, continues_calls, continues_on, continues_waits, continues_with}
use Rattle.tf_session.proofs.Served.{taken_answered, taken_begun, taken_waits}
use Rattle.tf_session.proofs.session.Session.send.Goals as goal

pub returns-in-Err-Unfit-clause-continues : goal.returns-in-Err-Unfit-clause-continues
returns-in-Err-Unfit-clause-continues g c = always c.answer.result _ (continues_calls _ _ _ refl (λ e. e) c.answer.ensures.others.0 c.answer.ensures.kept c.answer.ensures.only)

pub returns-in-Err-Unfit-clause-taken_up : goal.returns-in-Err-Unfit-clause-taken_up
returns-in-Err-Unfit-clause-taken_up g c = taken_answered _ _ c.answer.result c.args.request _ c.answer.new.self c.args.self.now.calls.entries.items c.answer.ensures.answered

pub returns-then-is_some-clause-continues : goal.returns-then-is_some-clause-continues
returns-then-is_some-clause-continues g c = continues_with _ _ _ c.in_ok-make_room.ensures

pub returns-then-has_begun-clause-continues : goal.returns-then-has_begun-clause-continues
returns-then-has_begun-clause-continues g c = continues_with _ _ _ c.in_ok-make_room.ensures

pub returns-then-has_begun-clause-taken_up : goal.returns-then-has_begun-clause-taken_up
returns-then-has_begun-clause-taken_up g c = taken_begun _ (asked c.args.request) c.make_room.new.self.calls (sym c.has_begun.ensures ∙ c.if-has_begun.true)

pub returns-clause-continues : goal.returns-clause-continues
returns-clause-continues g c = continues_on _ c.wait.result _ _ _ c.in_ok-make_room.ensures (continues_waits c.wait.result _ _ _ (refl, refl) c.wait.ensures.others c.wait.ensures.waits)

pub returns-clause-taken_up : goal.returns-clause-taken_up
returns-clause-taken_up g c = taken_waits _ c.wait.result _ c.wait.new.self c.make_room.new.self.calls.waiting.flights.items c.wait.ensures.waits
