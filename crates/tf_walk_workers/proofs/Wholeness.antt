-- A journal that weighs what the results report has the verdict of each called action, and of no other.
use Rattle.std.proofs.Common.{◌≡◌, ◌≢◌, ◌<◌, ◌≤◌, ◌+◌, ◌==◌, ◌∙◌, ℕ, zero, suc, Bool, true, false, cond, List, [], ◌∷◌, map, length, get_or, Option, Some, None, IfSome, option_map, inl, inr, refl, sym, ap, arith, eqb, eq-eqb, ne_eqb}
use Rattle.std.proofs.lemmas.Bool.{cases_eq}
use Rattle.std.proofs.lemmas.List.Sums.{sum_by-cons}
use Rattle.std.specs.List.{sum_by}
use Rattle.std.specs.Prelude.{find}
use Rattle.tf_provider_protocol.specs.declared.verdict.Verdict.{Verdict}
use Rattle.tf_provider_protocol.specs.declared.verdict.Verdict.TheVariants as verdict
use Rattle.tf_walk_action.specs.Journal.{entered_verdict, verdict_in}
use Rattle.tf_walk_action.specs.Outcome.{ActionResultView, done_at}
use Rattle.tf_walk_action.specs.ResultViews.{action_results_of, ended_action, result_or_skipped}
use Rattle.tf_walk_action.specs.declared.action_result.ActionResult.{ActionResult}
use Rattle.tf_graph.specs.Order.{IsInOrder}
use Rattle.tf_provider.specs.Entries.{actions_of}
use Rattle.tf_provider.specs.declared.journal.Entry.{Entry}
use Rattle.tf_walk_workers.specs.Calls.{called_with, records_of, reported_in, reported_weight}
use Rattle.tf_walk_workers.specs.declared.call_record.CallRecord.{CallRecord}
use Rattle.tf_walk_workers.proofs.Taking.{one_done}

-- a number for each verdict, above 0
abbrev code : Verdict → ℕ
code verdict.Good = 1
code verdict.Failed = 2
code verdict.Malformed = 3
code verdict.Excused = 4
code (verdict.Contradicted i) = 5 + i

-- and for an action that wasn't called, 0
abbrev code_of : Option Verdict → ℕ
code_of None = 0
code_of (Some v) = code v

-- a call of the action n weighs the number of its verdict, and any other nothing
abbrev by_verdict : ℕ → CallRecord → ℕ
by_verdict n r = cond (eqb r.action n) (code r.verdict) 0

same_code : (a b : Verdict) → code a ≡ code b → a ≡ b
same_code verdict.Good verdict.Good e = refl
same_code verdict.Failed verdict.Failed e = refl
same_code verdict.Malformed verdict.Malformed e = refl
same_code verdict.Excused verdict.Excused e = refl
same_code (verdict.Contradicted i) (verdict.Contradicted j) e = let s : i ≡ j = omega (arith, e) in ap verdict.Contradicted s
same_code _ _ e = absurd (omega (arith, e))

some_code : (v : Verdict) → 0 < code v
some_code verdict.Good = omega arith
some_code verdict.Failed = omega arith
some_code verdict.Malformed = omega arith
some_code verdict.Excused = omega arith
some_code (verdict.Contradicted i) = omega arith

pub same_verdict : (a b : Option Verdict) → code_of a ≡ code_of b → a ≡ b
same_verdict None None e = refl
same_verdict (Some v) (Some w) e = ap Some (same_code v w e)
same_verdict None (Some w) e = absurd (omega (arith, some_code w, e))
same_verdict (Some v) None e = absurd (omega (arith, some_code v, e))

one_called : (n : ℕ) (o : Option Verdict) → sum_by (by_verdict n) (called_with n o) ≡ code_of o
one_called n None = refl
one_called n (Some v) = rw (eq-eqb n n refl) (omega arith)

other_called : (n m : ℕ) (o : Option Verdict) → m ≢ n → sum_by (by_verdict n) (called_with m o) ≡ 0
other_called n m None ne = refl
other_called n m (Some v) ne = rw (ne_eqb m n ne) refl

module _ {X : Type 0} (reports : X → List CallRecord) (seen : X → Option Verdict) (d : X) (none : seen d ≡ None) where
  abbrev Own : ℕ → List X → Type 0
  Own k xs = (i : ℕ) → i < length xs → reports (get_or xs i d) ≡ called_with (k + i) (seen (get_or xs i d))

  own_rest : (k : ℕ) (x : X) (xs : List X) → Own k (x ∷ xs) → Own (suc k) xs
  own_rest k x xs own i below =
      let far : k + suc i ≡ suc k + i = omega arith in
      own (suc i) (omega arith) ∙ ap (λ (m : ℕ). called_with m (seen (get_or xs i d))) far

  own_here : (k : ℕ) (x : X) (xs : List X) → Own k (x ∷ xs) → reports x ≡ called_with k (seen x)
  own_here k x xs own =
      let here : k + 0 ≡ k = omega arith in
      own 0 (omega arith) ∙ ap (λ (m : ℕ). called_with m (seen x)) here

  past : (n k : ℕ) (xs : List X) → n < k → Own k xs → sum_by (λ x. sum_by (by_verdict n) (reports x)) xs ≡ 0
  past n k [] lt own = refl
  past n k (x ∷ xs) lt own =
      let r = past n (suc k) xs (omega arith) (own_rest k x xs own) in
      let here : sum_by (by_verdict n) (reports x) ≡ 0 = ap (sum_by (by_verdict n)) (own_here k x xs own) ∙ other_called n k (seen x) (λ e. omega arith) in
      omega (arith, sum_by-cons (λ y. sum_by (by_verdict n) (reports y)) x xs)

  pub reported : (k i : ℕ) (xs : List X) → Own k xs → sum_by (λ x. sum_by (by_verdict (k + i)) (reports x)) xs ≡ code_of (seen (get_or xs i d))
  reported k i [] own = sym (ap code_of none)
  reported k zero (x ∷ xs) own =
      let at : k + 0 ≡ k = omega arith in
      let r : sum_by (λ y. sum_by (by_verdict k) (reports y)) xs ≡ 0 = past k (suc k) xs (omega arith) (own_rest k x xs own) in
      let here : sum_by (by_verdict k) (reports x) ≡ code_of (seen x) = ap (sum_by (by_verdict k)) (own_here k x xs own) ∙ one_called k (seen x) in
      let all : sum_by (λ y. sum_by (by_verdict k) (reports y)) (x ∷ xs) ≡ code_of (seen x) = omega (arith, sum_by-cons (λ y. sum_by (by_verdict k) (reports y)) x xs) in
      ap (λ (m : ℕ). sum_by (λ y. sum_by (by_verdict m) (reports y)) (x ∷ xs)) at ∙ all
  reported k (suc i) (x ∷ xs) own =
      let at : k + suc i ≡ suc k + i = omega arith in
      let n : ℕ = suc k + i in
      let r : sum_by (λ y. sum_by (by_verdict n) (reports y)) xs ≡ code_of (seen (get_or xs i d)) = reported (suc k) i xs (own_rest k x xs own) in
      let here : sum_by (by_verdict n) (reports x) ≡ 0 = ap (sum_by (by_verdict n)) (own_here k x xs own) ∙ other_called n k (seen x) (λ e. omega arith) in
      let all : sum_by (λ y. sum_by (by_verdict n) (reports y)) (x ∷ xs) ≡ code_of (seen (get_or xs i d)) = omega (arith, sum_by-cons (λ y. sum_by (by_verdict n) (reports y)) x xs) in
      ap (λ (m : ℕ). sum_by (λ y. sum_by (by_verdict m) (reports y)) (x ∷ xs)) at ∙ all

module _ {E : Type 0} (action : E → ℕ) (verdict_on : E → Verdict) where
  abbrev call : E → CallRecord
  call e = record { action = action e; verdict = verdict_on e }

  abbrev found : List E → ℕ → Option Verdict
  found es n = option_map verdict_on (find (λ e. eqb (action e) n) es)

  abbrev Once : List E → Type 0
  Once es = (i j : ℕ) → i < j → j < length (map action es) → get_or (map action es) i 0 ≢ get_or (map action es) j 0

  none_other : (n : ℕ) (es : List E) → ((j : ℕ) → j < length (map action es) → get_or (map action es) j 0 ≢ n) → sum_by (by_verdict n) (map call es) ≡ 0
  none_other n [] others = refl
  none_other n (e ∷ es) others =
      let r = none_other n es (λ j below. others (suc j) (omega arith)) in
      let here : by_verdict n (call e) ≡ 0 = rw (ne_eqb (action e) n (others 0 (omega arith))) refl in
      omega (arith, sum_by-cons (by_verdict n) (call e) (map call es))

  pub kept : (n : ℕ) (es : List E) → Once es → sum_by (by_verdict n) (map call es) ≡ code_of (found es n)
  kept n [] once = refl
  kept n (e ∷ es) once =
      elim (cases_eq (action e) n) [
        | inl is ↦
            let r = none_other n es (λ j below same. once 0 (suc j) (omega arith) (omega arith) (is ∙ sym same)) in
            let here : by_verdict n (call e) ≡ code (verdict_on e) = rw (eq-eqb (action e) n is) refl in
            let there : code_of (found (e ∷ es) n) ≡ code (verdict_on e) = rw (eq-eqb (action e) n is) refl in
            omega (arith, sum_by-cons (by_verdict n) (call e) (map call es))
        | inr ne ↦
            let r = kept n es (λ i j less below. once (suc i) (suc j) (omega arith) (omega arith)) in
            let here : by_verdict n (call e) ≡ 0 = rw (ne_eqb (action e) n ne) refl in
            let there : code_of (found (e ∷ es) n) ≡ code_of (found es n) = rw (ne_eqb (action e) n ne) refl in
            omega (arith, sum_by-cons (by_verdict n) (call e) (map call es))
      ]

abbrev verdict_seen : Option ActionResult → Option Verdict
verdict_seen o = entered_verdict (result_or_skipped o)

reported_own : (n : ℕ) (o : Option ActionResult) → IfSome o (λ ended. ended_action ended ≡ n) → reported_in o ≡ called_with n (verdict_seen o)
reported_own n None own = refl
reported_own n (Some ended) own = ap (λ (k : ℕ). called_with k (verdict_seen (Some ended))) own

-- Each result is of the action at its place, and reports together what the journal keeps: the journal has the verdict of each
-- called action, and of no other.
pub verdicts : (before : ℕ → List ℕ) (results : List (Option ActionResult)) (entries : List Entry)
    → IsInOrder before (actions_of entries) → ((n : ℕ) → IfSome (get_or results n None) (λ ended. ended_action ended ≡ n))
    → ((h : CallRecord → ℕ) → reported_weight h results ≡ sum_by h (records_of entries))
    → (n : ℕ) → verdict_in entries n ≡ entered_verdict (done_at (action_results_of results) n)
verdicts before results entries order own same n =
    let zero_at : 0 + n ≡ n = omega arith in
    let each : (i : ℕ) → i < length results → reported_in (get_or results i None) ≡ called_with (0 + i) (verdict_seen (get_or results i None)) =
    (λ i below. let far : i ≡ 0 + i = omega arith in reported_own i (get_or results i None) (own i) ∙ ap (λ (k : ℕ). called_with k (verdict_seen (get_or results i None))) far) in
    let reports : reported_weight (by_verdict n) results ≡ code_of (verdict_seen (get_or results n None)) =
    ap (λ (k : ℕ). reported_weight (by_verdict k) results) (sym zero_at) ∙ reported reported_in verdict_seen None refl 0 n results each in
    let keeps = kept (λ (e : Entry). e.action) (λ (e : Entry). e.verdict) n entries order.once in
    let seen : verdict_seen (get_or results n None) ≡ entered_verdict (done_at (action_results_of results) n) = ap entered_verdict (sym (one_done results n)) in
    let weighs : code_of (verdict_in entries n) ≡ code_of (verdict_seen (get_or results n None)) = sym keeps ∙ (sym (same (by_verdict n)) ∙ reports) in
    same_verdict (verdict_in entries n) (verdict_seen (get_or results n None)) weighs ∙ seen
