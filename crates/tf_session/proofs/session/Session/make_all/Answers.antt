-- one call more is taken up
use Rattle.std.proofs.Common.{◌≡◌, ◌∙◌, ◌∷◌, [], ap, map, subst, sym}
use Rattle.std.proofs.lemmas.List.Elements.{Contains-append_left, Contains-append_right}
use Rattle.std.specs.List.{Contains}
use Rattle.std.specs.Vec.Iter.{into_iter_items}
use Rattle.tf_provider_protocol.specs.Meaning.{Asked, asked}
use Rattle.tf_session.proofs.Kept.{continues_for, continues_same, continues_then, or_left}
use Rattle.tf_session.proofs.Served.{one_more}
use Rattle.tf_session.proofs.session.Session.make_all.Goals as goal

pub loop-request-preserved : goal.loop-request-preserved
loop-request-preserved g c =
    let r = c.in-Some.request in
    let all = map asked c.args.requests.items in
    let rest = map asked (into_iter_items c.next.new.self) in
    let left : map asked (into_iter_items c.loop-request.request-iterator) ≡ asked r ∷ rest = ap (map asked) c.in-Some.ensures.steps.0 in
    let there = λ (q : Asked) (h : Contains (asked r ∷ rest) q). c.loop-request.invariant.left q (subst (λ l. Contains l q) (sym left) h) in
    let made = c.in_ok-make-in-Ok.ensures in
    record {
      continues = continues_then all _ _ _ c.loop-request.invariant.continues (continues_for (asked r ∷ []) all _ _ (λ q h. there q (Contains-append_left (asked r ∷ []) rest q h)) made.continues);
      taken_up = one_more (asked r ∷ []) _ _ _ _ made.continues c.loop-request.invariant.taken_up made.taken_up;
      left = λ q h. there q (Contains-append_right (asked r ∷ []) rest q h);
    }

pub returns-in-Err-clause-continues : goal.returns-in-Err-clause-continues
returns-in-Err-clause-continues g c = continues_then _ _ _ _ c.loop-request.invariant.continues (continues_same _ _ _ (c.close.ensures.same.0, c.close.ensures.same.1) (λ e. c.close.ensures.closed ∙ or_left _ _ e))
