-- What was seen before one action holds where the same actions stand before another.
use Rattle.std.proofs.Common.{◌≡◌, ◌<◌, ◌&&◌, ◌∙◌, All, Bool, true, false, ℕ, zero, suc, List, [], ◌∷◌, length, get_or, refl, sym, ap, subst, arith}
use Rattle.tf_walk_workers.specs.Ideal.{IsGoodInEach}
use Rattle.tf_walk_workers.specs.SeenResult.{AreShown, seen_result_of}
use Rattle.tf_walk_workers.specs.declared.before.Before.{Before}
use Rattle.tf_config_data.specs.Names.{NameView}
use Rattle.tf_graph.specs.Digraph.{predecessors_of}
use Rattle.tf_graph.specs.Solutions.{seen_by}
use Rattle.tf_walk_action.specs.Outcome.{ActionResultView, all_good, is_good}
use Rattle.tf_plan_data.specs.Plan.{PlanView}
use Rattle.tf_plan_data.specs.declared.plan.Plan.{Plan}
use Rattle.tf_provider_protocol.specs.Meaning.{Meaning}
use Rattle.tf_walk_workers.specs.Seen.{AreSeen}

first : (a b : Bool) → a && b ≡ true → a ≡ true
first true b h = refl
first false b h = absurd (cc)

rest : (a b : Bool) → a && b ≡ true → b ≡ true
rest true b h = h
rest false b h = absurd (cc)

-- each of some actions is good where all that is seen of them is
good_at : (ideal : ℕ → ActionResultView) (nodes : List ℕ) → all_good (seen_by ideal nodes) ≡ true → (k d : ℕ) → k < length nodes → is_good (ideal (get_or nodes k d)) ≡ true
good_at ideal [] h k d below = absurd (omega (arith, below))
good_at ideal (n ∷ nodes) h zero d below = first (is_good (ideal n)) (all_good (seen_by ideal nodes)) h
good_at ideal (n ∷ nodes) h (suc k) d below = good_at ideal nodes (rest (is_good (ideal n)) (all_good (seen_by ideal nodes)) h) k d (omega arith)

-- the actions that are shown are good in every ideal
pub good_each : (ms : List Meaning) (plan : PlanView) (nodes : List ℕ) (seen : List (ℕ × ActionResultView)) → AreShown ms plan nodes seen → All (λ n. IsGoodInEach ms plan n) nodes
good_each ms plan nodes seen shown = λ k d below requests ideal is. good_at ideal nodes (ap all_good (sym (shown.1 requests ideal is)) ∙ shown.0) k d below

module _ {N : Type 0} (ms : List Meaning) (walk : PlanView) (plan : Plan) (names : List NameView) (m n : ℕ) (b : Before N) (same : predecessors_of plan.order m ≡ predecessors_of plan.order n) where
  -- what is seen before one action is seen before another
  pub seen_too : AreSeen ms walk plan names m b → AreSeen ms walk plan names n b
  seen_too s = record {
    named = s.named;
    prior = s.prior;
    actions = s.actions;
    shows = subst (λ (ns : List ℕ). AreShown ms walk ns (seen_result_of b)) same s.shows;
  }

  -- so all actions before the other are good
  pub good_too : AreSeen ms walk plan names m b → All (λ k. IsGoodInEach ms walk k) (predecessors_of plan.order n)
  good_too s = good_each ms walk (predecessors_of plan.order n) (seen_result_of b) (subst (λ (ns : List ℕ). AreShown ms walk ns (seen_result_of b)) same s.shows)
