-- the requests that waited are in flight
use Rattle.std.proofs.Common.{◌≡◌, ◌∙◌, ◌++◌, ◌||◌, ap, inl, inr, length, map, nat_lt, refl}
use Rattle.tf_session.proofs.Kept.{flushed, or_left}
use Rattle.tf_session.specs.Calls.{is_closed}
use Rattle.tf_session.specs.declared.calls.Calls.{Calls}
use Rattle.tf_session.proofs.session.Session.flush.Goals as goal

pub returns-clause-continues : goal.returns-clause-continues
returns-clause-continues g c =
    let n = length c.take_waiting-waiting.result.items in
    let count = length c.announce-announced.result.announced.items in
    let was = is_closed c.args.self.now in
    let closed : is_closed c.close.new.self ≡ (was || nat_lt count n) = c.close.ensures.closed ∙ ap (λ b. was || b) c.announce-announced.ensures.closing in
    let (kept, taken, only) = flushed c.args.self.now.calls c.take_waiting-waiting.new.self c.reserve.new.self c.write_all.new.self.calls was count n _ _ c.take_waiting-waiting.ensures.others c.take_waiting-waiting.ensures.waited c.take_waiting-waiting.ensures.none
    c.in_ok-reserve.ensures.waiting c.in_ok-reserve.ensures.same refl c.announce-announced.ensures.first
    (c.write_all.ensures.same.1 ∙ ap (λ (d : Calls). d.waiting) c.close.ensures.same.1, c.write_all.ensures.same.2 ∙ ap (λ (d : Calls). d.entries) c.close.ensures.same.1)
    (c.write_all.ensures.sent ∙ ap (λ (d : Calls). d.flights.flights.items ++ map (λ a. a.message) c.announce-announced.result.announced.items) c.close.ensures.same.1) in
    record {
      types = c.write_all.ensures.same.0 ∙ c.close.ensures.same.0;
      calls = kept;
      closed = λ e. c.write_all.ensures.closed (c.close.ensures.closed ∙ or_left _ _ e);
      taken_up = λ q h. elim (taken q h) [ inl e ↦ inl (c.write_all.ensures.closed (closed ∙ e)) | inr there ↦ inr there ];
      only = only;
    }
