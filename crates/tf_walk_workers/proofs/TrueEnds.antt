-- What a true end says of each ideal.
use Rattle.std.proofs.Common.{◌≡◌, ℕ, true, false, List, Option, Some, None, Result, Ok, Err, IfOk, IsTrue, ap, sym, ◌∙◌}
use Rattle.std.specs.Prelude.{MatchOption}
use Rattle.tf_plan_data.specs.Plan.{PlanView}
use Rattle.tf_provider_protocol.specs.Meaning.{Meaning}
use Rattle.tf_value_data.specs.Tree.{tree_of}
use Rattle.tf_value_data.specs.declared.value.Value.{Value}
use Rattle.tf_walk_action.specs.Outcome.{ActionResultView, skipped, excused, faulted, called, is_good}
use Rattle.tf_walk_action.specs.Objects.{object_of}
use Rattle.tf_walk_workers.specs.Ideal.{InEachIdeal, IsGoodInEach, IsTrueTo}

-- a good end is the ideal one
pub good-is : (ms : List Meaning) (plan : PlanView) (n : ℕ) (d : ActionResultView) → IsTrueTo ms plan n d → is_good d ≡ true → InEachIdeal ms plan (λ ideal. d ≡ ideal n)
good-is ms plan n skipped fits good = absurd (cc)
good-is ms plan n (excused m) fits good = absurd (cc)
good-is ms plan n (faulted why) fits good = absurd (cc)
good-is ms plan n (called asked answer v) fits good = fits

-- so a good action is good in every ideal
pub good-each : (ms : List Meaning) (plan : PlanView) (n : ℕ) (d : ActionResultView) → IsTrueTo ms plan n d → is_good d ≡ true → IsGoodInEach ms plan n
good-each ms plan n d fits good = λ requests ideal is. sym (ap is_good (good-is ms plan n d fits good requests ideal is)) ∙ good

-- The evidence that an action isn't good is of this one, and where there is none the action is good in every ideal.
pub evidence-is : (ms : List Meaning) (plan : PlanView) (n : ℕ) (d : ActionResultView) (own : ℕ) → own ≡ n → IsTrueTo ms plan n d → (found : Option ℕ)
    → MatchOption found (is_good d ≡ true) (λ bad. (is_good d ≡ false) × (bad ≡ own)) → MatchOption found (IsGoodInEach ms plan n) (λ bad. bad ≡ n)
evidence-is ms plan n d own e fits None h = good-each ms plan n d fits h
evidence-is ms plan n d own e fits (Some bad) h = h.1 ∙ e

-- and so is its object
pub object-is : {E : Type 0} → (ms : List Meaning) (plan : PlanView) (n : ℕ) (d : ActionResultView) → IsTrueTo ms plan n d → (found : Result Value E) → IfOk found (λ value. tree_of value ≡ object_of d)
    → IfOk found (λ value. IsTrue (is_good d) → InEachIdeal ms plan (λ ideal. tree_of value ≡ object_of (ideal n)))
object-is ms plan n d fits (Ok value) same = λ good requests ideal is. same ∙ ap object_of (good-is ms plan n d fits good requests ideal is)
object-is ms plan n d fits (Err e) same = tt
