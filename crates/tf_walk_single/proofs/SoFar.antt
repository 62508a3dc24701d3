-- One more action ends.
use Rattle.std.proofs.Common.{◌≡◌, ◌<◌, ℕ, Bool, true, false, ◌&&◌, cond, eqb, ◌⊎◌, inl, inr, List, [], ◌∷◌, ◌++◌, length, set, Option, Some, None, refl, ap, sym, ◌∙◌, subst, arith}
use Rattle.std.specs.Prelude.{is_some, unwrap_or, option_and_then, slice_set, MatchOption, not}
use Rattle.std.specs.List.{AllByRecursion, list_all}
use Rattle.std.proofs.lemmas.Bool.Decides.{nat_tests}
use Rattle.std.proofs.Math.ListN.{length-set}
use Rattle.tf_claim.specs.Ledger.{Ledger, stage_in, is_free, is_done, is_ready, is_claimable}
use Rattle.tf_claim.specs.declared.book.Stage.{Stage}
use Rattle.tf_claim.specs.declared.book.Stage.TheVariants as stage
use Rattle.tf_graph.proofs.Rows.{get_or-set_test}
use Rattle.tf_graph.specs.Digraph.{Digraph, predecessors_of}
use Rattle.tf_graph.proofs.Solving.{seen_by-same, all_done}
use Rattle.tf_graph.specs.Solutions.{seen_by, Ranked, StaysBelow}
use Rattle.tf_provider.specs.declared.journal.Entry.{Entry}
use Rattle.tf_plan_data.specs.Action.{ActionView}
use Rattle.tf_plan_data.specs.Plan.{PlanView}
use Rattle.tf_provider_protocol.specs.Meaning.{Meaning}
use Rattle.tf_provider_protocol.specs.declared.request.Op.{Op}
use Rattle.tf_provider_protocol.specs.declared.verdict.Verdict.{Verdict}
use Rattle.tf_value_data.proofs.Conjunction.{and-first, and-second}
use Rattle.tf_walk_single.specs.Ends.{IsEnd, IsSoFar, IsStaged, Enters, AllHaveEnded, end_at, done_in, stage_of}
use Rattle.tf_walk_action.specs.Outcome.{ActionResultView, skipped, Requests, AreRequests}
use Rattle.tf_walk_action.specs.Journal.{IsOfAction, op_at, verdict_in, entered_verdict}
use Rattle.tf_walk_single.proofs.Entered.{verdict_in-push}
use Rattle.tf_walk_single.proofs.Seen.{list_all-same, list_all-weaker, all_by_test}

-- what came of an action, once one more has ended
pub end_at-set : (ends : List (Option ActionResultView)) (n : ℕ) (d : ActionResultView) (m : ℕ) → n < length ends → end_at (set ends n (Some d)) m ≡ cond (eqb n m) (Some d) (end_at ends m)
end_at-set ends n d m h = get_or-set_test ends n (Some d) None m h

other_than : (ends : List (Option ActionResultView)) (n m : ℕ) → end_at ends n ≡ None → is_some (end_at ends m) ≡ true → eqb n m ≡ false
other_than ends n m free some = at (eqb n m) refl
  where
    at : (b : Bool) → eqb n m ≡ b → b ≡ false
    at true e = let same : n ≡ m = grind (arith, nat_tests) in absurd (differ same)
      where
        differ : n ≡ m → ⊥
        differ same = let some_here : is_some (end_at ends n) ≡ true = rw same some in let none : is_some (end_at ends n) ≡ false = ap is_some free in cc
    at false e = refl

-- what had ended stays
pub stays : (ends : List (Option ActionResultView)) (n : ℕ) (d : ActionResultView) (m : ℕ) → n < length ends → end_at ends n ≡ None → is_some (end_at ends m) ≡ true → end_at (set ends n (Some d)) m ≡ end_at ends m
stays ends n d m h free some = end_at-set ends n d m h ∙ ap (λ (b : Bool). cond b (Some d) (end_at ends m)) (other_than ends n m free some)

pub done_stays : (ends : List (Option ActionResultView)) (n : ℕ) (d : ActionResultView) (m : ℕ) → n < length ends → end_at ends n ≡ None → is_some (end_at ends m) ≡ true → done_in (set ends n (Some d)) m ≡ done_in ends m
done_stays ends n d m h free some = ap (λ (o : Option ActionResultView). unwrap_or o skipped) (stays ends n d m h free some)

some_stays : (ends : List (Option ActionResultView)) (n : ℕ) (d : ActionResultView) (m : ℕ) → n < length ends → end_at ends n ≡ None → is_some (end_at ends m) ≡ true → is_some (end_at (set ends n (Some d)) m) ≡ true
some_stays ends n d m h free some = ap is_some (stays ends n d m h free some) ∙ some

-- where all that stands before an action has ended, one more end changes nothing that it sees
pub seen_stays : (ends : List (Option ActionResultView)) (n : ℕ) (d : ActionResultView) (nodes : List ℕ) → n < length ends → end_at ends n ≡ None → list_all (λ m. is_some (end_at ends m)) nodes ≡ true
    → seen_by (done_in (set ends n (Some d))) nodes ≡ seen_by (done_in ends) nodes
seen_stays ends n d nodes h free before =
    seen_by-same (done_in (set ends n (Some d))) (done_in ends) nodes (all_by_test (λ m. is_some (end_at ends m)) (λ m. done_in (set ends n (Some d)) m ≡ done_in ends m) nodes (λ m some. done_stays ends n d m h free some) before)

-- an action's entry is added where its end has a verdict
abbrev Adds : ℕ → Option Op → List Entry → List Entry → Option Verdict → Type 0
Adds n op es es' v = MatchOption v (es' ≡ es) (λ w. (e : Entry) × (e.action ≡ n) × (Some e.op ≡ op) × (e.verdict ≡ w) × (es' ≡ es ++ e ∷ []))

entered_at : (es es' : List Entry) (n : ℕ) (op : Option Op) (d : ActionResultView) (v : Option Verdict) → entered_verdict d ≡ v → Adds n op es es' v → verdict_in es n ≡ None
    → (m : ℕ) → verdict_in es' m ≡ cond (eqb n m) v (verdict_in es m)
entered_at es es' n op d None is same none m = ap (λ (x : List Entry). verdict_in x m) same ∙ at (eqb n m) refl
  where
    at : (b : Bool) → eqb n m ≡ b → verdict_in es m ≡ cond b None (verdict_in es m)
    at true e = let same_action : n ≡ m = grind (arith, nat_tests) in ap (verdict_in es) (sym same_action) ∙ none
    at false e = refl
entered_at es es' n op d (Some w) is same none m =
    let e = same.0 in
    let fresh : verdict_in es e.action ≡ None = ap (verdict_in es) same.1 ∙ none in
    ap (λ (x : List Entry). verdict_in x m) same.4 ∙ (verdict_in-push es e m fresh ∙ rw (same.1, same.3) refl)

all_by-push : {A : Type 0} (P : A → Type 0) (xs : List A) (x : A) → AllByRecursion P xs → P x → AllByRecursion P (xs ++ x ∷ [])
all_by-push P [] x h p = (p, tt)
all_by-push P (y ∷ ys) x h p = (h.0, all_by-push P ys x h.1 p)

-- each entry says what its action has its provider do, with the one that is added
ops_at : (actions : List ActionView) (es es' : List Entry) (n : ℕ) (v : Option Verdict) → Adds n (op_at actions n) es es' v → AllByRecursion (IsOfAction actions) es → AllByRecursion (IsOfAction actions) es'
ops_at actions es es' n None same h = subst (AllByRecursion (IsOfAction actions)) (sym same) h
ops_at actions es es' n (Some w) added h =
    let e = added.0 in
    subst (AllByRecursion (IsOfAction actions)) (sym added.4) (all_by-push (IsOfAction actions) es e h (ap (op_at actions) added.1 ∙ sym added.2))

ended_at : (b : Bool) (n m : ℕ) (d : ActionResultView) (o : Option ActionResultView) → option_and_then entered_verdict (cond b (Some d) o) ≡ cond b (entered_verdict d) (option_and_then entered_verdict o)
ended_at true n m d o = refl
ended_at false n m d o = refl

-- one more action has ended
pub so_far-more : (ms : List Meaning) (plan : PlanView) (ends : List (Option ActionResultView)) (es es' : List Entry) (n : ℕ) (d : ActionResultView)
    → IsSoFar ms plan ends es → n < length ends → end_at ends n ≡ None
    → list_all (λ m. is_some (end_at ends m)) (predecessors_of plan.order n) ≡ true
    → ((requests : Requests) → AreRequests plan requests → IsEnd ms requests plan n (seen_by (done_in ends) (predecessors_of plan.order n)) d)
    → Enters n (op_at plan.actions n) d es es'
    → IsSoFar ms plan (set ends n (Some d)) es'
so_far-more ms plan ends es es' n d s h free before end enters =
    let new = set ends n (Some d) in
    let here : end_at new n ≡ Some d = end_at-set ends n d n h ∙ (let same : eqb n n ≡ true = grind (arith, nat_tests) in rw same refl) in
    record {
      sized = length-set ends n (Some d) ∙ s.sized;
      closed = λ m some. elim (cases (eqb n m)) [
        | inl e ↦
            let same : n ≡ m = grind (arith, nat_tests) in
            list_all-weaker (λ k. is_some (end_at ends k)) (λ k. is_some (end_at new k)) (predecessors_of plan.order m) (λ k p. some_stays ends n d k h free p) (rw (← same) before)
        | inr e ↦
            let old : is_some (end_at ends m) ≡ true = sym (ap is_some (end_at-set ends n d m h ∙ rw e refl)) ∙ some in
            list_all-weaker (λ k. is_some (end_at ends k)) (λ k. is_some (end_at new k)) (predecessors_of plan.order m) (λ k p. some_stays ends n d k h free p) (s.closed m old)
      ];
      ended = λ requests are m d' is. elim (cases (eqb n m)) [
        | inl e ↦
            let same : n ≡ m = grind (arith, nat_tests) in
            let same_end : d ≡ d' = some_is (sym here ∙ (ap (end_at new) same ∙ is)) in
            let P : ActionResultView → Type 0 = λ x. IsEnd ms requests plan m (seen_by (done_in new) (predecessors_of plan.order m)) x in
            subst P same_end (rw (← same, seen_stays ends n d (predecessors_of plan.order n) h free before) (end requests are))
        | inr e ↦
            let old : end_at ends m ≡ Some d' = sym (end_at-set ends n d m h ∙ rw e refl) ∙ is in
            let some : is_some (end_at ends m) ≡ true = ap is_some old in
            rw (seen_stays ends n d (predecessors_of plan.order m) h free (s.closed m some)) (s.ended requests are m d' old)
      ];
      entered = λ m.
          entered_at es es' n (op_at plan.actions n) d (entered_verdict d) refl enters (s.entered n ∙ ap (option_and_then entered_verdict) free) m
          ∙ (rw (s.entered m) (sym (ended_at (eqb n m) n m d (end_at ends m))) ∙ sym (ap (option_and_then entered_verdict) (end_at-set ends n d m h)));
      ops = ops_at plan.actions es es' n (entered_verdict d) enters s.ops;
    }
  where
    cases : (b : Bool) → (b ≡ true) ⊎ (b ≡ false)
    cases true = inl refl
    cases false = inr refl

    some_is : {x y : ActionResultView} → Some x ≡ Some y → x ≡ y
    some_is e = cc

stage_at : (b : Bool) (x y : Stage) (d : ActionResultView) (o : Option ActionResultView) → y ≡ stage_of o → cond b stage.Done y ≡ stage_of (cond b (Some d) o)
stage_at true x y d o e = refl
stage_at false x y d o e = e

-- and then it is done in the book
pub staged-more : (stages : List Stage) (ends : List (Option ActionResultView)) (n : ℕ) (d : ActionResultView) → n < length ends → n < length stages → IsStaged stages ends
    → IsStaged (slice_set (slice_set stages n stage.Taken) n stage.Done) (set ends n (Some d))
staged-more stages ends n d h k staged = λ m.
    let long : n < length (slice_set stages n stage.Taken) = rw (length-set stages n stage.Taken) k in
    let outer : stage_in (slice_set (slice_set stages n stage.Taken) n stage.Done) m ≡ cond (eqb n m) stage.Done (stage_in (slice_set stages n stage.Taken) m) =
    get_or-set_test (slice_set stages n stage.Taken) n stage.Done stage.Free m long in
    let inner : stage_in (slice_set stages n stage.Taken) m ≡ cond (eqb n m) stage.Taken (stage_in stages m) = get_or-set_test stages n stage.Taken stage.Free m k in
    outer ∙ (rw inner (twice (eqb n m) (stage_in stages m)) ∙ (stage_at (eqb n m) stage.Free (stage_in stages m) d (end_at ends m) (staged m) ∙ sym (ap stage_of (end_at-set ends n d m h))))
  where
    twice : (b : Bool) (x : Stage) → cond b stage.Done (cond b stage.Taken x) ≡ cond b stage.Done x
    twice true x = refl
    twice false x = refl

is_done-stage : (o : Option ActionResultView) → is_done (stage_of o) ≡ is_some o
is_done-stage None = refl
is_done-stage (Some d) = refl

free_is : (o : Option ActionResultView) → is_free (stage_of o) ≡ true → o ≡ None
free_is None e = refl
free_is (Some d) e = absurd (cc)

-- what may be claimed hasn't ended, and all before it has
pub claimable_is : (l : Ledger) (ends : List (Option ActionResultView)) (n : ℕ) → IsStaged l.stages ends → is_claimable l n ≡ true
    → (end_at ends n ≡ None) × (list_all (λ m. is_some (end_at ends m)) (predecessors_of l.graph n) ≡ true)
claimable_is l ends n staged e =
    let same : is_ready l n ≡ list_all (λ m. is_some (end_at ends m)) (predecessors_of l.graph n) =
    list_all-same (λ m. is_done (stage_in l.stages m)) (λ m. is_some (end_at ends m)) (predecessors_of l.graph n) (λ m. ap is_done (staged m) ∙ is_done-stage (end_at ends m)) in
    (free_is (end_at ends n) (sym (ap is_free (staged n)) ∙ and-first (is_free (stage_in l.stages n)) (is_ready l n) e), sym same ∙ and-second (is_free (stage_in l.stages n)) (is_ready l n) e)

not_ready_is : (o : Option ActionResultView) (b : Bool) → (is_free (stage_of o) && b) ≡ false → (not (is_some o) && b) ≡ false
not_ready_is None b e = e
not_ready_is (Some d) b e = refl

-- where nothing may be claimed, every action has ended
pub all_ended : (l : Ledger) (plan : PlanView) (ends : List (Option ActionResultView)) → Ranked (predecessors_of plan.order) → StaysBelow plan.order.nodes (predecessors_of plan.order) → plan.order.nodes ≡ length plan.actions
    → l.graph ≡ plan.order → IsStaged l.stages ends → ((n : ℕ) → n < l.graph.nodes → is_claimable l n ≡ false) → AllHaveEnded plan ends
all_ended l plan ends ranked below count same staged none = λ n h.
    all_done plan.order.nodes (predecessors_of plan.order) (λ m. is_some (end_at ends m)) ranked below
    (λ m k.
    let here : is_claimable l m ≡ false = none m (rw same k) in
    let ready : is_ready l m ≡ list_all (λ j. is_some (end_at ends j)) (predecessors_of plan.order m) =
    list_all-same (λ j. is_done (stage_in l.stages j)) (λ j. is_some (end_at ends j)) (predecessors_of l.graph m) (λ j. ap is_done (staged j) ∙ is_done-stage (end_at ends j))
    ∙ ap (λ (gr : Digraph). list_all (λ j. is_some (end_at ends j)) (predecessors_of gr m)) same in
    let at : (is_free (stage_of (end_at ends m)) && list_all (λ j. is_some (end_at ends j)) (predecessors_of plan.order m)) ≡ false = rw (← staged m, ← ready) here in
    not_ready_is (end_at ends m) (list_all (λ j. is_some (end_at ends j)) (predecessors_of plan.order m)) at)
    n (rw count h)
