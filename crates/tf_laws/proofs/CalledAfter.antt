-- An action was called only after good ones.
use Rattle.std.proofs.Common.{◌≡◌, ◌∙◌, ◌<◌, ◌==◌, ℕ, zero, suc, Bool, true, false, if◌then◌else◌, List, [], ◌∷◌, ◌++◌, length, map, take, drop, Some, refl, sym, ap, subst, arith, inl, inr, eq-eqb, ne_eqb}
use Rattle.std.proofs.lemmas.Bool.{cases_eq}
use Rattle.std.proofs.lemmas.List.{take-append-drop, take-map}
use Rattle.std.specs.List.{AllByRecursion}
use Rattle.std.specs.Prelude.{Contains, slice_get}
use Rattle.tf_graph.specs.Digraph.{predecessors_of}
use Rattle.tf_graph.specs.Solutions.{seen_by}
use Rattle.tf_walk_action.specs.Excuse.{excuse_of}
use Rattle.tf_walk_action.specs.Journal.{entered_verdict, verdict_in}
use Rattle.tf_walk_action.specs.Outcome.{ActionResultView, skipped, excused, faulted, called, all_good, call_at, done_at, is_good, or_excused}
use Rattle.tf_walk_action.specs.declared.excuse.Outcome.{Outcome}
use Rattle.tf_walk_action.specs.declared.excuse.Outcome.TheVariants.{Judged}
use Rattle.tf_plan_data.specs.Plan.{PlanView}
use Rattle.tf_provider_protocol.specs.Meaning.{Meaning}
use Rattle.tf_provider_protocol.specs.declared.verdict.Verdict.{Verdict}
use Rattle.tf_provider_protocol.specs.declared.verdict.Verdict.TheVariants as verdict
use Rattle.tf_provider.specs.Entries.{actions_of}
use Rattle.tf_provider.specs.declared.journal.Entry.{Entry}
use Rattle.tf_walk_report.specs.Outcomes.{outcome_of}
use Rattle.tf_walk_report.specs.Report.{IsReported}
use Rattle.tf_walk_report.specs.declared.report.Report.{Report}
use Rattle.tf_value_data.proofs.Conjunction.{and-first, and-second}
use Rattle.tf_laws.proofs.Journals.{action_of_entry, verdict_of_entry}
use Rattle.tf_laws.proofs.Lists.{all_weaker}
use Rattle.tf_laws.proofs.ListsOfEntries.{got_in, in_cases, nothing_in}
use Rattle.tf_laws.proofs.Well.{good_verdict}
use Rattle.tf_laws.specs.Called.{CalledAfterGood, EnteredAfterGood, JudgedAfterGood}

-- ---- what is good

good_entered : (d : ActionResultView) → is_good d ≡ true → entered_verdict d ≡ Some verdict.Good
good_entered skipped h = absurd (cc)
good_entered (excused m) h = absurd (cc)
good_entered (faulted why) h = absurd (cc)
good_entered (called asked answer v) h = ap Some (good_verdict v h)

good_outcome : (d : ActionResultView) → is_good d ≡ true → outcome_of d ≡ Judged verdict.Good
good_outcome skipped h = absurd (cc)
good_outcome (excused m) h = absurd (cc)
good_outcome (faulted why) h = absurd (cc)
good_outcome (called asked answer v) h = ap Judged (good_verdict v h)

good_told : (done : List ActionResultView) (m : ℕ) → is_good (done_at done m) ≡ true → slice_get (map outcome_of done) m ≡ Some (Judged verdict.Good)
good_told [] m h = absurd (cc)
good_told (d ∷ done) zero h = ap Some (good_outcome d h)
good_told (d ∷ done) (suc m) h = good_told done m h

-- ---- what is called

entered_below : (done : List ActionResultView) (n : ℕ) (v : Verdict) → entered_verdict (done_at done n) ≡ Some v → n < length done
entered_below [] n v e = absurd (cc)
entered_below (d ∷ done) zero v e = omega arith
entered_below (d ∷ done) (suc n) v e = let below = entered_below done n v e in omega (arith, below)

judged_entered : (done : List ActionResultView) (n : ℕ) (v : Verdict) → slice_get (map outcome_of done) n ≡ Some (Judged v) → entered_verdict (done_at done n) ≡ Some v
judged_entered [] n v e = absurd (cc)
judged_entered (skipped ∷ done) zero v e = absurd (cc)
judged_entered (excused m ∷ done) zero v e = absurd (cc)
judged_entered (faulted why ∷ done) zero v e = absurd (cc)
judged_entered (called asked answer w ∷ done) zero v e = let same : w ≡ v = (cc) in ap Some same
judged_entered (d ∷ done) (suc n) v e = judged_entered done n v e

-- what is called isn't skipped
not_skipped : (b : Bool) (c d : ActionResultView) (v : Verdict) → d ≡ (if b then c else skipped) → entered_verdict d ≡ Some v → b ≡ true
not_skipped true c d v is e = refl
not_skipped false c d v is e = let none : entered_verdict skipped ≡ Some v = ap entered_verdict (sym is) ∙ e in absurd (cc)

each_good : (results : ℕ → ActionResultView) (nodes : List ℕ) → all_good (seen_by results nodes) ≡ true → AllByRecursion (λ m. is_good (results m) ≡ true) nodes
each_good results [] h = tt
each_good results (n ∷ nodes) h = (and-first (is_good (results n)) (all_good (seen_by results nodes)) h, each_good results nodes (and-second (is_good (results n)) (all_good (seen_by results nodes)) h))

module _ (ms : List Meaning) (plan : PlanView) (report : Report) (is : IsReported ms plan report) where
  -- what stands directly before a called action is good
  pub good_before : (n : ℕ) (v : Verdict) → entered_verdict (done_at is.done n) ≡ Some v → AllByRecursion (λ m. is_good (done_at is.done m) ≡ true) (predecessors_of plan.order n)
  good_before n v e =
      let solved = is.is_report.solved in
      let seen = seen_by (done_at is.done) (predecessors_of plan.order n) in
      let below : n < length plan.actions = subst (λ (k : ℕ). n < k) solved.all (entered_below is.done n v e) in
      each_good (done_at is.done) (predecessors_of plan.order n)
      (not_skipped (all_good seen) (or_excused (excuse_of report.excused.items n) (call_at ms is.requests plan n seen)) (done_at is.done n) v (solved.solves n below) e)

pub called_after_good : CalledAfterGood
called_after_good ms plan report is n v e =
    all_weaker (λ m. is_good (done_at is.done m) ≡ true) (λ m. slice_get report.outcomes.items m ≡ Some (Judged verdict.Good)) (predecessors_of plan.order n)
    (λ m h. ap (λ (os : List Outcome). slice_get os m) is.is_report.told.outcomes ∙ good_told is.done m h) (good_before ms plan report is n v e)

pub judged_after_good : JudgedAfterGood
judged_after_good ms plan report is n v e =
    called_after_good ms plan report is n v (judged_entered is.done n v (ap (λ (os : List Outcome). slice_get os n) (sym is.is_report.told.outcomes) ∙ e))

-- ---- the journal

-- what is found among the first entries is what is found among all
found_first : (xs ys : List Entry) (m : ℕ) → Contains (actions_of xs) m → verdict_in xs m ≡ verdict_in (xs ++ ys) m
found_first [] ys m c = absurd (nothing_in m c)
found_first (x ∷ xs) ys m c = elim (cases_eq x.action m) [
  | inl same ↦ let here : (x.action == m) ≡ true = eq-eqb x.action m same in rw here refl
  | inr other ↦
      let not : (x.action == m) ≡ false = ne_eqb x.action m other in
      elim (in_cases m x.action (actions_of xs) c) [
        | inl same ↦ absurd (other same)
        | inr later ↦ rw not (found_first xs ys m later)
      ]
]

both_along : (P Q R : ℕ → Type 0) (xs : List ℕ) → ((x : ℕ) → P x → Q x → R x) → AllByRecursion P xs → AllByRecursion Q xs → AllByRecursion R xs
both_along P Q R [] f p q = tt
both_along P Q R (x ∷ xs) f p q = (f x p.0 q.0, both_along P Q R xs f p.1 q.1)

pub entered_after_good : EnteredAfterGood
entered_after_good ms plan report is i e at =
    let entries = report.journal.entries in
    let own = action_of_entry entries i e at in
    let journal = is.journal in
    let entered : entered_verdict (done_at is.reported.done e.action) ≡ Some e.verdict = sym (journal.verdicts e.action) ∙ verdict_of_entry entries journal.in_order.once e (got_in entries i e at) in
    let good = good_before ms plan report is.reported e.action e.verdict entered in
    let before : AllByRecursion (λ m. Contains (take i (actions_of entries)) m) (predecessors_of plan.order e.action) =
    subst (λ (n : ℕ). AllByRecursion (λ m. Contains (take i (actions_of entries)) m) (predecessors_of plan.order n)) own.1 (journal.in_order.after i own.0) in
    both_along (λ m. is_good (done_at is.reported.done m) ≡ true) (λ m. Contains (take i (actions_of entries)) m) (λ m. verdict_in (take i entries) m ≡ Some verdict.Good) (predecessors_of plan.order e.action)
    (λ m h c.
    let there : Contains (actions_of (take i entries)) m = subst (λ (ns : List ℕ). Contains ns m) (take-map (λ (x : Entry). x.action) i entries) c in
    found_first (take i entries) (drop i entries) m there ∙ ap (λ (es : List Entry). verdict_in es m) (take-append-drop i entries) ∙ journal.verdicts m ∙ good_entered (done_at is.reported.done m) h)
    good before
