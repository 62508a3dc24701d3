use Rattle.std.proofs.Common.{◌≡◌, ℕ, Some, IfSome, sym, ap, ◌∙◌, subst}
use Rattle.tf_walk_action.specs.ResultViews.{action_result_of, result_or_skipped}
use Rattle.tf_walk_action.specs.Outcome.{ActionResultView}
use Rattle.tf_walk_workers.specs.Ideal.{IsEndOf, IsTrueTo}
use Rattle.tf_walk_workers.specs.Reading.{done_held}
use Rattle.tf_walk_workers.proofs.reading.Reading.ended.Goals as goal

pub returns-clause-own : goal.returns-clause-own
returns-clause-own g c =
    let claim = c.args.self.now.claim in
    let own : IsEndOf g.N.WalkBrand.meanings g.N.WalkBrand.plan claim.tag c.in-Some.ended =
    subst (λ o. IfSome o (IsEndOf g.N.WalkBrand.meanings g.N.WalkBrand.plan claim.tag)) c.in-Some.is c.get.ensures.1.fits in
    own.0 ∙ c.args.self.now.own

pub returns-clause-fits : goal.returns-clause-fits
returns-clause-fits g c =
    let claim = c.args.self.now.claim in
    let true_to : ℕ → ActionResultView → Type 0 = λ n d. IsTrueTo g.N.WalkBrand.meanings g.N.WalkBrand.plan n d in
    let own : IsEndOf g.N.WalkBrand.meanings g.N.WalkBrand.plan claim.tag c.in-Some.ended =
    subst (λ o. IfSome o (IsEndOf g.N.WalkBrand.meanings g.N.WalkBrand.plan claim.tag)) c.in-Some.is c.get.ensures.1.fits in
    let held : action_result_of c.in-Some.ended ≡ done_held claim.value = ap result_or_skipped (sym c.in-Some.is) ∙ ap done_held c.get.ensures.0 in
    subst (λ n. true_to n (done_held claim.value)) c.args.self.now.own (subst (λ d. true_to claim.tag d) held own.2)
