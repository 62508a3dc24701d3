-- Nothing is named by two excuses of a report, and each excused action by one.
use Rattle.std.proofs.Common.{◌≡◌, ◌∙◌, ◌+◌, ◌≤◌, ℕ, zero, suc, List, [], ◌∷◌, ◌++◌, map, Option, Some, None, option_map, refl, sym, ap, subst, arith}
use Rattle.std.proofs.lemmas.List.Elements.{Contains-append_left, Contains-append_right}
use Rattle.std.proofs.lemmas.Option.{slice_get-map}
use Rattle.std.specs.List.{AllByRecursion}
use Rattle.std.specs.Prelude.{Contains, slice_get, ⊤}
use Rattle.tf_walk_action.specs.Excuse.{Moment, before_call, during_call, by_stop}
use Rattle.tf_walk_action.specs.Outcome.{ActionResultView, skipped, excused, faulted, called}
use Rattle.tf_walk_action.specs.declared.excuse.Excuse.{Excuse}
use Rattle.tf_walk_action.specs.declared.excuse.Excuse.TheVariants.{Before, During, Left, Output}
use Rattle.tf_walk_action.specs.declared.excuse.Outcome.{Outcome}
use Rattle.tf_walk_action.specs.declared.excuse.Outcome.TheVariants as outcome
use Rattle.tf_walk_outputs.specs.Outputs.{OutputResultView, end_of}
use Rattle.tf_walk_outputs.specs.declared.ends.OutputResult.{OutputResult}
use Rattle.tf_walk_outputs.specs.declared.ends.OutputResult.TheVariants.{NotEvaluated, NoMemory, Faulted, Valued}
use Rattle.tf_plan_data.specs.Plan.{PlanView}
use Rattle.tf_walk_report.specs.Outcomes.{excuses_at, excuses_from, outcome_of}
use Rattle.tf_walk_report.specs.OutputsTold.{output_excuses}
use Rattle.tf_laws.proofs.Due.{excuses_due}
use Rattle.tf_laws.proofs.Lists.{all_weaker}
use Rattle.tf_laws.proofs.ListsOfEntries.{all_appended, all_got, got_in, in_got}
use Rattle.tf_laws.specs.Excuses.{ExcusedAreNamed, IsDue, NamedOnce, Subject, an_action, an_output, subject_of}

-- ---- nothing is named twice

-- an excuse names an action, or an output, from a place on
abbrev IsOfAction : ℕ → Excuse → Type 0
IsOfAction k e = (n : ℕ) × (subject_of e ≡ an_action n) × (k ≤ n)

abbrev IsOfOutput : ℕ → Excuse → Type 0
IsOfOutput k e = (n : ℕ) × (subject_of e ≡ an_output n) × (k ≤ n)

action_later : (k : ℕ) (e : Excuse) → IsOfAction (k + 1) e → IsOfAction k e
action_later k e is = (is.0, is.1, omega (arith, is.2))

output_later : (k : ℕ) (e : Excuse) → IsOfOutput (k + 1) e → IsOfOutput k e
output_later k e is = (is.0, is.1, omega (arith, is.2))

of_actions : (k : ℕ) (done : List ActionResultView) → AllByRecursion (IsOfAction k) (excuses_from k done)
of_actions k [] = tt
of_actions k (skipped ∷ done) = all_weaker (IsOfAction (k + 1)) (IsOfAction k) (excuses_from (k + 1) done) (action_later k) (of_actions (k + 1) done)
of_actions k (excused before_call ∷ done) = ((k, refl, omega arith), all_weaker (IsOfAction (k + 1)) (IsOfAction k) (excuses_from (k + 1) done) (action_later k) (of_actions (k + 1) done))
of_actions k (excused during_call ∷ done) = ((k, refl, omega arith), all_weaker (IsOfAction (k + 1)) (IsOfAction k) (excuses_from (k + 1) done) (action_later k) (of_actions (k + 1) done))
of_actions k (excused by_stop ∷ done) = ((k, refl, omega arith), all_weaker (IsOfAction (k + 1)) (IsOfAction k) (excuses_from (k + 1) done) (action_later k) (of_actions (k + 1) done))
of_actions k (faulted why ∷ done) = all_weaker (IsOfAction (k + 1)) (IsOfAction k) (excuses_from (k + 1) done) (action_later k) (of_actions (k + 1) done)
of_actions k (called asked answer v ∷ done) = all_weaker (IsOfAction (k + 1)) (IsOfAction k) (excuses_from (k + 1) done) (action_later k) (of_actions (k + 1) done)

of_outputs : (k : ℕ) (ends : List OutputResult) → AllByRecursion (IsOfOutput k) (output_excuses k ends)
of_outputs k [] = tt
of_outputs k (NotEvaluated ∷ ends) = all_weaker (IsOfOutput (k + 1)) (IsOfOutput k) (output_excuses (k + 1) ends) (output_later k) (of_outputs (k + 1) ends)
of_outputs k (NoMemory ∷ ends) = ((k, refl, omega arith), all_weaker (IsOfOutput (k + 1)) (IsOfOutput k) (output_excuses (k + 1) ends) (output_later k) (of_outputs (k + 1) ends))
of_outputs k (Faulted why ∷ ends) = all_weaker (IsOfOutput (k + 1)) (IsOfOutput k) (output_excuses (k + 1) ends) (output_later k) (of_outputs (k + 1) ends)
of_outputs k (Valued ∷ ends) = all_weaker (IsOfOutput (k + 1)) (IsOfOutput k) (output_excuses (k + 1) ends) (output_later k) (of_outputs (k + 1) ends)

-- an excuse names something else
abbrev IsOther : Subject → Excuse → Type 0
IsOther s e = s ≡ subject_of e → ⊥

other_action : (k : ℕ) (e : Excuse) → IsOfAction (k + 1) e → IsOther (an_action k) e
other_action k e is = λ same.
    let both : an_action k ≡ an_action is.0 = same ∙ is.1 in
    let one : k ≡ is.0 = (cc) in
    absurd (omega (arith, one, is.2))

other_output : (k : ℕ) (e : Excuse) → IsOfOutput (k + 1) e → IsOther (an_output k) e
other_output k e is = λ same.
    let both : an_output k ≡ an_output is.0 = same ∙ is.1 in
    let one : k ≡ is.0 = (cc) in
    absurd (omega (arith, one, is.2))

no_output : (k : ℕ) (e : Excuse) → IsOfOutput 0 e → IsOther (an_action k) e
no_output k e is = λ same. let both : an_action k ≡ an_output is.0 = same ∙ is.1 in absurd (cc)

-- each excuse names something else than all behind it
abbrev AreApart : List Excuse → Type 0
AreApart [] = ⊤
AreApart (e ∷ es) = AllByRecursion (IsOther (subject_of e)) es × AreApart es

outputs_apart : (k : ℕ) (ends : List OutputResult) → AreApart (output_excuses k ends)
outputs_apart k [] = tt
outputs_apart k (NotEvaluated ∷ ends) = outputs_apart (k + 1) ends
outputs_apart k (NoMemory ∷ ends) = (all_weaker (IsOfOutput (k + 1)) (IsOther (an_output k)) (output_excuses (k + 1) ends) (other_output k) (of_outputs (k + 1) ends), outputs_apart (k + 1) ends)
outputs_apart k (Faulted why ∷ ends) = outputs_apart (k + 1) ends
outputs_apart k (Valued ∷ ends) = outputs_apart (k + 1) ends

module _ (rest : List Excuse) (are : AllByRecursion (IsOfOutput 0) rest) (apart : AreApart rest) where
  others : (k : ℕ) (done : List ActionResultView) → AllByRecursion (IsOther (an_action k)) (excuses_from (k + 1) done ++ rest)
  others k done =
      all_appended (IsOther (an_action k)) (excuses_from (k + 1) done) rest (all_weaker (IsOfAction (k + 1)) (IsOther (an_action k)) (excuses_from (k + 1) done) (other_action k) (of_actions (k + 1) done))
      (all_weaker (IsOfOutput 0) (IsOther (an_action k)) rest (no_output k) are)

  all_apart : (k : ℕ) (done : List ActionResultView) → AreApart (excuses_from k done ++ rest)
  all_apart k [] = apart
  all_apart k (skipped ∷ done) = all_apart (k + 1) done
  all_apart k (excused before_call ∷ done) = (others k done, all_apart (k + 1) done)
  all_apart k (excused during_call ∷ done) = (others k done, all_apart (k + 1) done)
  all_apart k (excused by_stop ∷ done) = (others k done, all_apart (k + 1) done)
  all_apart k (faulted why ∷ done) = all_apart (k + 1) done
  all_apart k (called asked answer v ∷ done) = all_apart (k + 1) done

once_by : (es : List Excuse) → AreApart es → (i j : ℕ) (e f : Excuse) → slice_get es i ≡ Some e → slice_get es j ≡ Some f → subject_of e ≡ subject_of f → i ≡ j
once_by [] apart i j e f at to same = absurd (cc)
once_by (x ∷ es) apart zero zero e f at to same = refl
once_by (x ∷ es) apart zero (suc j) e f at to same =
    let first : x ≡ e = (cc) in
    absurd (all_got (IsOther (subject_of x)) es apart.0 j f to (ap subject_of first ∙ same))
once_by (x ∷ es) apart (suc i) zero e f at to same =
    let first : x ≡ f = (cc) in
    absurd (all_got (IsOther (subject_of x)) es apart.0 i e at (ap subject_of first ∙ sym same))
once_by (x ∷ es) apart (suc i) (suc j) e f at to same = ap suc (once_by es apart.1 i j e f at to same)

pub named_once : NamedOnce
named_once ms plan report is =
    let ends = map end_of is.outputs in
    once_by report.excused.items
    (subst AreApart (sym is.is_report.told.lawful) (all_apart (output_excuses 0 ends) (of_outputs 0 ends) (outputs_apart 0 ends) 0 is.done))

-- ---- each excused action is named

-- some excuse names an action
abbrev IsNamed : List Excuse → ℕ → Type 0
IsNamed es n = (e : Excuse) × Contains es e × (subject_of e ≡ an_action n)

excuse_for : Moment → ℕ → Excuse
excuse_for before_call n = Before n
excuse_for during_call n = During n
excuse_for by_stop n = Left n

subject_for : (m : Moment) (n : ℕ) → subject_of (excuse_for m n) ≡ an_action n
unfolding excuse_for
subject_for before_call n = refl
subject_for during_call n = refl
subject_for by_stop n = refl

excuses_for : (m : Moment) (n : ℕ) → excuses_at n (excused m) ≡ excuse_for m n ∷ []
unfolding excuse_for
excuses_for before_call n = refl
excuses_for during_call n = refl
excuses_for by_stop n = refl

named_from : (k j : ℕ) (done : List ActionResultView) (m : Moment) → slice_get done j ≡ Some (excused m) → Contains (excuses_from k done) (excuse_for m (k + j))
named_from k j [] m at = absurd (cc)
named_from k zero (d ∷ done) m at =
    let here : d ≡ excused m = (cc) in
    let start : k ≡ k + 0 = omega arith in
    let one : Contains (excuses_at k d) (excuse_for m (k + 0)) =
    subst (λ (es : List Excuse). Contains es (excuse_for m (k + 0))) (sym (ap (excuses_at k) here ∙ excuses_for m k)) (got_in (excuse_for m k ∷ []) 0 (excuse_for m (k + 0)) (ap (λ (n : ℕ). Some (excuse_for m n)) start)) in
    Contains-append_left (excuses_at k d) (excuses_from (k + 1) done) (excuse_for m (k + 0)) one
named_from k (suc j) (d ∷ done) m at =
    let next : k + 1 + j ≡ k + suc j = omega arith in
    Contains-append_right (excuses_at k d) (excuses_from (k + 1) done) (excuse_for m (k + suc j))
    (subst (λ (n : ℕ). Contains (excuses_from (k + 1) done) (excuse_for m n)) next (named_from (k + 1) j done m at))

-- what ended as excused
excused_end : (o : Option ActionResultView) → option_map outcome_of o ≡ Some outcome.Excused → (m : Moment) × (o ≡ Some (excused m))
excused_end None e = absurd (cc)
excused_end (Some skipped) e = absurd (cc)
excused_end (Some (excused m)) e = (m, refl)
excused_end (Some (faulted why)) e = absurd (cc)
excused_end (Some (called asked answer v)) e = absurd (cc)

due_excused : (plan : PlanView) (done : List ActionResultView) (ended : List OutputResultView) (n : ℕ) (e : Excuse) → IsDue plan done ended e → subject_of e ≡ an_action n → (m : Moment) × (slice_get done n ≡ Some (excused m))
due_excused plan done ended n (Before k) due same = let one : k ≡ n = (cc) in (before_call, subst (λ (i : ℕ). slice_get done i ≡ Some (excused before_call)) one due)
due_excused plan done ended n (During k) due same = let one : k ≡ n = (cc) in (during_call, subst (λ (i : ℕ). slice_get done i ≡ Some (excused during_call)) one due)
due_excused plan done ended n (Left k) due same = let one : k ≡ n = (cc) in (by_stop, subst (λ (i : ℕ). slice_get done i ≡ Some (excused by_stop)) one due)
due_excused plan done ended n (Output k) due same = absurd (cc)

pub excused_named : ExcusedAreNamed
excused_named ms plan report is n =
    let told = is.is_report.told in
    let outcomes : slice_get report.outcomes.items n ≡ option_map outcome_of (slice_get is.done n) = ap (λ (os : List Outcome). slice_get os n) told.outcomes ∙ slice_get-map outcome_of is.done n in (
      (λ e.
          let end = excused_end (slice_get is.done n) (sym outcomes ∙ e) in
          let start : 0 + n ≡ n = omega arith in
          let there : Contains (excuses_from 0 is.done) (excuse_for end.0 n) = subst (λ (k : ℕ). Contains (excuses_from 0 is.done) (excuse_for end.0 k)) start (named_from 0 n is.done end.0 end.1) in (
            excuse_for end.0 n,
            subst (λ (es : List Excuse). Contains es (excuse_for end.0 n)) (sym told.lawful) (Contains-append_left (excuses_from 0 is.done) (output_excuses 0 (map end_of is.outputs)) (excuse_for end.0 n) there),
            subject_for end.0 n,
          )),
      (λ named.
          let at = in_got report.excused.items named.0 named.1 in
          let due = all_got (IsDue plan is.done is.outputs) report.excused.items (excuses_due ms plan report is) at.0 named.0 at.1 in
          let end = due_excused plan is.done is.outputs n named.0 due named.2 in
          outcomes ∙ ap (option_map outcome_of) end.1),
    )
