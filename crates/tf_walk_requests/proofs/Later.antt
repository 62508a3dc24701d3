-- What is so by the entries of a log stays so when more entries follow.
use Rattle.std.proofs.Common.{◌≡◌, ◌∙◌, ◌<◌, ◌∷◌, [], ℕ, zero, suc, List, Option, Some, None, Err, Ok, ap, arith, inl, inr, length, refl, replicate, subst, sym, take}
use Rattle.std.proofs.Math.Path.{fun_ext}
use Rattle.std.proofs.lemmas.List.{length-replicate}
use Rattle.std.specs.Prelude.{slice_get}
use Rattle.tf_plan_data.specs.Plan.{PlanView}
use Rattle.tf_provider_log.specs.LogEntry.{LogEntryView}
use Rattle.tf_provider_protocol.specs.Meaning.{Asked, Meaning}
use Rattle.tf_value_data.specs.Tree.{Tree}
use Rattle.tf_walk_requests.specs.Asks.{IsAskedOf}
use Rattle.tf_walk_requests.specs.Progress.{AreReached, IsDue, IsReached, IsRequestIn}
use Rattle.tf_walk_requests.specs.Stages.{StageView, failed, good, object_by, object_in, objects_in, pending, requested, stage_in}

-- an item of a list is at the same place of a longer one
same_place : {X : Type 0} (xs ys : List X) (i : ℕ) (x : X) → take (length xs) ys ≡ xs → slice_get xs i ≡ Some x → slice_get ys i ≡ Some x
same_place [] ys i x begins at = absurd (cc)
same_place (y ∷ xs) [] i x begins at = absurd (cc)
same_place (y ∷ xs) (z ∷ ys) zero x begins at = (let same : z ≡ y = cc in ap Some same ∙ at)
same_place (y ∷ xs) (z ∷ ys) (suc i) x begins at = same_place xs ys i x (cc) at

same_object : (ms : List Meaning) (plan : PlanView) (es more : List LogEntryView) (stages : List StageView) (n : ℕ) (s : StageView) → take (length es) more ≡ es → IsReached ms plan es stages n s → object_by more s ≡ object_by es s
same_object ms plan es more stages n pending begins h = refl
same_object ms plan es more stages n (requested q) begins h = refl
same_object ms plan es more stages n failed begins h = refl
same_object ms plan es more stages n (good place) begins h = ap object_in (same_place es more place _ begins h.is_entry ∙ sym h.is_entry)

same_objects : (ms : List Meaning) (plan : PlanView) (es more : List LogEntryView) (stages : List StageView) → take (length es) more ≡ es → AreReached ms plan es stages → objects_in more stages ≡ objects_in es stages
same_objects ms plan es more stages begins h = fun_ext (λ n. same_object ms plan es more stages n (stage_in stages n) begins (h.each n))

request_later : (ms : List Meaning) (plan : PlanView) (es more : List LogEntryView) (stages : List StageView) (n : ℕ) (q : Asked) → objects_in more stages ≡ objects_in es stages → IsRequestIn ms plan es stages n q → IsRequestIn ms plan more stages n q
request_later ms plan es more stages n q same h = record { before = h.before; is_asked = subst (λ (objects : ℕ → Tree). IsAskedOf ms plan n objects (Ok q)) (sym same) h.is_asked; full = h.full }

stage_later : (ms : List Meaning) (plan : PlanView) (es more : List LogEntryView) (stages : List StageView) (n : ℕ) (s : StageView) → take (length es) more ≡ es → objects_in more stages ≡ objects_in es stages
    → IsReached ms plan es stages n s → IsReached ms plan more stages n s
stage_later ms plan es more stages n pending begins same h = tt
stage_later ms plan es more stages n failed begins same (inl h) =
    inl record { request = h.request; answer = h.answer; place = h.place; is_request = request_later ms plan es more stages n h.request same h.is_request; is_entry = same_place es more h.place _ begins h.is_entry; is_bad = h.is_bad }
stage_later ms plan es more stages n failed begins same (inr h) = inr record { before = h.before; why = h.why; is_fault = subst (λ (objects : ℕ → Tree). IsAskedOf ms plan n objects (Err h.why)) (sym same) h.is_fault }
stage_later ms plan es more stages n (requested q) begins same h = request_later ms plan es more stages n q same h
stage_later ms plan es more stages n (good place) begins same h =
    record { request = h.request; answer = h.answer; is_request = request_later ms plan es more stages n h.request same h.is_request; is_entry = same_place es more place _ begins h.is_entry; is_good = h.is_good }

pub reached_later : (ms : List Meaning) (plan : PlanView) (es more : List LogEntryView) (stages : List StageView) → take (length es) more ≡ es → AreReached ms plan es stages → AreReached ms plan more stages
reached_later ms plan es more stages begins h =
    let same = same_objects ms plan es more stages begins h in
    record { all = h.all; each = λ n. stage_later ms plan es more stages n (stage_in stages n) begins same (h.each n) }

pub due_later : (ms : List Meaning) (plan : PlanView) (es more : List LogEntryView) (q : Asked) → take (length es) more ≡ es → IsDue ms plan es q → IsDue ms plan more q
due_later ms plan es more q begins h =
    let same = same_objects ms plan es more h.stages begins h.reached in
    record { stages = h.stages; action = h.action; reached = reached_later ms plan es more h.stages begins h.reached; is_request = request_later ms plan es more h.stages h.action q same h.is_request }

-- at first no action is requested
pub is_pending_at_first : (count n : ℕ) (q : Asked) → stage_in (replicate count pending) n ≡ requested q → ⊥
is_pending_at_first zero n q h = cc
is_pending_at_first (suc count) zero q h = cc
is_pending_at_first (suc count) (suc n) q h = is_pending_at_first count n q h

at_first : (ms : List Meaning) (plan : PlanView) (es : List LogEntryView) (stages : List StageView) (m count n : ℕ) → IsReached ms plan es stages m (stage_in (replicate count pending) n)
at_first ms plan es stages m zero n = tt
at_first ms plan es stages m (suc count) zero = tt
at_first ms plan es stages m (suc count) (suc n) = at_first ms plan es stages m count n

pub reached_at_first : (ms : List Meaning) (plan : PlanView) (es : List LogEntryView) (count : ℕ) (stages : List StageView) → stages ≡ replicate count pending → count ≡ length plan.actions → AreReached ms plan es stages
reached_at_first ms plan es count stages are long = record {
  all = ap length are ∙ length-replicate count pending ∙ long;
  each = λ n. subst (λ ss. IsReached ms plan es stages n (stage_in ss n)) (sym are) (at_first ms plan es stages n count n);
}
