-- What comes of an action whose predecessors are seen.
use Rattle.std.proofs.Common.{◌≡◌, ◌<◌, ◌∙◌, [], ℕ, true, List, length, if◌then◌else◌, sym, ap}
use Rattle.tf_graph.specs.Digraph.{predecessors_of}
use Rattle.tf_graph.specs.Solutions.{seen_by}
use Rattle.tf_plan_data.specs.Plan.{PlanView}
use Rattle.tf_provider_protocol.specs.Meaning.{Meaning}
use Rattle.tf_walk_action.specs.Excuse.{before_call, during_call, by_stop}
use Rattle.tf_walk_action.specs.Outcome.{ActionResultView, skipped, excused, faulted, called, Requests, all_good, call_at, is_faulted, rule}
use Rattle.tf_walk_workers.specs.Ideal.{IsIdeal, AgreesWith}
use Rattle.tf_walk_workers.specs.Laws.{CallsAreTrue, ExcusesAreTrue}
use Rattle.tf_walk_workers.specs.SeenResult.{AreShown}

-- where all that is seen is good, the rule makes a call of it
pub rule-calls : (ms : List Meaning) (requests : Requests) (plan : PlanView) (n : ℕ) (seen : List (ℕ × ActionResultView)) → all_good seen ≡ true → rule ms requests plan [] n seen ≡ call_at ms requests plan n seen
rule-calls ms requests plan n seen good = ap (λ b. if b then call_at ms requests plan n seen else skipped) good

-- the ideal outcome is that of the call, by what is seen
pub ideal-calls : (ms : List Meaning) (plan : PlanView) (n : ℕ) (seen : List (ℕ × ActionResultView)) (requests : Requests) (ideal : ℕ → ActionResultView) → n < length plan.actions
    → AreShown ms plan (predecessors_of plan.order n) seen → IsIdeal ms plan requests ideal → ideal n ≡ call_at ms requests plan n seen
ideal-calls ms plan n seen requests ideal below shown is =
    is.1 n below ∙ ap (rule ms requests plan [] n) (sym (shown.1 requests ideal is)) ∙ rule-calls ms requests plan n seen shown.0

-- and all before the action are good in the ideal
pub ideal-good : (ms : List Meaning) (plan : PlanView) (nodes : List ℕ) (seen : List (ℕ × ActionResultView)) (requests : Requests) (ideal : ℕ → ActionResultView)
    → AreShown ms plan nodes seen → IsIdeal ms plan requests ideal → all_good (seen_by ideal nodes) ≡ true
ideal-good ms plan nodes seen requests ideal shown is = ap all_good (sym (shown.1 requests ideal is)) ∙ shown.0

-- an end that is the ideal one agrees with it, where all before are good
agrees : (before : ℕ → List ℕ) (ideal : ℕ → ActionResultView) (n : ℕ) (d : ActionResultView) → d ≡ ideal n → all_good (seen_by ideal (before n)) ≡ true → AgreesWith before ideal n d
agrees before ideal n skipped same good = tt
agrees before ideal n (excused before_call) same good = tt
agrees before ideal n (excused by_stop) same good = tt
agrees before ideal n (excused during_call) same good = (good, ap is_faulted (sym same))
agrees before ideal n (faulted why) same good = same
agrees before ideal n (called asked answer v) same good = same

pub calls_true : CallsAreTrue
calls_true ms plan n seen d below shown call requests ideal is =
    agrees (predecessors_of plan.order) ideal n d (call requests is.0 ∙ sym (ideal-calls ms plan n seen requests ideal below shown is))
    (ideal-good ms plan (predecessors_of plan.order n) seen requests ideal shown is)

pub excuses_true : ExcusesAreTrue
excuses_true ms plan n seen below shown none requests ideal is =
    (ideal-good ms plan (predecessors_of plan.order n) seen requests ideal shown is, ap is_faulted (ideal-calls ms plan n seen requests ideal below shown is) ∙ none requests is.0)
