use Rattle.std.proofs.Common.{◌≡◌, ℕ, subst}
use Rattle.std.specs.Prelude.{MatchOption}
use Rattle.tf_walk_workers.specs.Ideal.{IsGoodInEach}
use Rattle.tf_walk_workers.proofs.seeing.not_good.Goals as goal

pub returns-in-Some-read : goal.returns-in-Some-read
returns-in-Some-read g c =
    subst (λ (n : ℕ). MatchOption c.not_good.result (IsGoodInEach g.N.WalkBrand.meanings g.N.WalkBrand.plan n) (λ bad. bad ≡ n)) c.in-Some-read.ensures c.not_good.ensures
