-- The excuses of the excused actions excuse exactly those.
use Rattle.std.proofs.Common.{◌≡◌, ◌<◌, ℕ, zero, suc, ◌+◌, Bool, true, false, cond, eqb, List, [], ◌∷◌, ◌++◌, Option, Some, None, refl, ap, ◌∙◌, arith}
use Rattle.std.proofs.lemmas.Bool.Decides.{nat_tests}
use Rattle.tf_walk_action.specs.Excuse.{Moment, before_call, during_call, by_stop, excuse_of, moment_in, or_else}
use Rattle.tf_walk_action.specs.Outcome.{ActionResultView, skipped, excused, faulted, called, done_at, excuse_in}
use Rattle.tf_walk_outputs.specs.declared.ends.OutputResult.{OutputResult}
use Rattle.tf_walk_outputs.specs.declared.ends.OutputResult.TheVariants.{NotEvaluated, NoMemory, Faulted, Valued}
use Rattle.tf_walk_report.specs.Outcomes.{excuses_at, excuses_from}
use Rattle.tf_walk_report.specs.OutputsTold.{output_excuses}
use Rattle.tf_walk_action.specs.declared.excuse.Excuse.{Excuse}

or_else-or_else : (a b c : Option Moment) → or_else a (or_else b c) ≡ or_else (or_else a b) c
or_else-or_else None b c = refl
or_else-or_else (Some m) b c = refl

excuse_of-append : (es fs : List Excuse) (n : ℕ) → excuse_of (es ++ fs) n ≡ or_else (excuse_of es n) (excuse_of fs n)
excuse_of-append [] fs n = refl
excuse_of-append (e ∷ es) fs n = ap (or_else (moment_in e n)) (excuse_of-append es fs n) ∙ or_else-or_else (moment_in e n) (excuse_of es n) (excuse_of fs n)

or_none : (b : Bool) (m : Moment) → or_else (cond b (Some m) None) None ≡ cond b (Some m) None
or_none true m = refl
or_none false m = refl

same_either : (b : Bool) (o : Option Moment) → o ≡ cond b o o
same_either true o = refl
same_either false o = refl

-- one action's excuses excuse that action
at_one : (k n : ℕ) (d : ActionResultView) → excuse_of (excuses_at k d) n ≡ cond (eqb k n) (excuse_in d) None
at_one k n skipped = same_either (eqb k n) None
at_one k n (faulted why) = same_either (eqb k n) None
at_one k n (called r a v) = same_either (eqb k n) None
at_one k n (excused before_call) = or_none (eqb k n) before_call
at_one k n (excused by_stop) = or_none (eqb k n) by_stop
at_one k n (excused during_call) = or_none (eqb k n) during_call

not_below : (k : ℕ) (done : List ActionResultView) (n : ℕ) → n < k → excuse_of (excuses_from k done) n ≡ None
not_below k [] n h = refl
not_below k (d ∷ done) n h =
    let other : eqb k n ≡ false = grind (arith, nat_tests) in
    let here : excuse_of (excuses_at k d) n ≡ None = at_one k n d ∙ ap (λ (b : Bool). cond b (excuse_in d) None) other in
    excuse_of-append (excuses_at k d) (excuses_from (k + 1) done) n
    ∙ (ap (λ (o : Option Moment). or_else o (excuse_of (excuses_from (k + 1) done) n)) here ∙ not_below (k + 1) done n (omega arith))

or_else-none : (o : Option Moment) → or_else o None ≡ o
or_else-none None = refl
or_else-none (Some m) = refl

there : (k : ℕ) (done : List ActionResultView) (n m : ℕ) → n ≡ k + m → excuse_of (excuses_from k done) n ≡ excuse_in (done_at done m)
there k [] n m e = refl
there k (d ∷ done) n zero e =
    let same : eqb k n ≡ true = grind (arith, nat_tests) in
    let here : excuse_of (excuses_at k d) n ≡ excuse_in d = at_one k n d ∙ ap (λ (b : Bool). cond b (excuse_in d) None) same in
    let later : excuse_of (excuses_from (k + 1) done) n ≡ None = not_below (k + 1) done n (omega (arith, e)) in
    excuse_of-append (excuses_at k d) (excuses_from (k + 1) done) n
    ∙ (ap (or_else (excuse_of (excuses_at k d) n)) later ∙ (or_else-none (excuse_of (excuses_at k d) n) ∙ here))
there k (d ∷ done) n (suc m) e =
    let other : eqb k n ≡ false = grind (arith, nat_tests) in
    let here : excuse_of (excuses_at k d) n ≡ None = at_one k n d ∙ ap (λ (b : Bool). cond b (excuse_in d) None) other in
    excuse_of-append (excuses_at k d) (excuses_from (k + 1) done) n
    ∙ (ap (λ (o : Option Moment). or_else o (excuse_of (excuses_from (k + 1) done) n)) here ∙ there (k + 1) done n m (omega (arith, e)))

-- an action is excused exactly as it ended
excuses-are : (done : List ActionResultView) (n : ℕ) → excuse_of (excuses_from 0 done) n ≡ excuse_in (done_at done n)
excuses-are done n = there 0 done n n (omega arith)

-- no excuse of an output names an action
none_of_outputs : (first : ℕ) (ends : List OutputResult) (n : ℕ) → excuse_of (output_excuses first ends) n ≡ None
none_of_outputs first [] n = refl
none_of_outputs first (NotEvaluated ∷ ends) n = none_of_outputs (first + 1) ends n
none_of_outputs first (NoMemory ∷ ends) n = none_of_outputs (first + 1) ends n
none_of_outputs first (Faulted why ∷ ends) n = none_of_outputs (first + 1) ends n
none_of_outputs first (Valued ∷ ends) n = none_of_outputs (first + 1) ends n

-- so an action is excused exactly as it ended by all excuses
pub excuses-with_outputs : (done : List ActionResultView) (ends : List OutputResult) (n : ℕ) → excuse_of (excuses_from 0 done ++ output_excuses 0 ends) n ≡ excuse_in (done_at done n)
excuses-with_outputs done ends n =
    excuse_of-append (excuses_from 0 done) (output_excuses 0 ends) n
    ∙ (ap (or_else (excuse_of (excuses_from 0 done) n)) (none_of_outputs 0 ends n) ∙ (or_else-none (excuse_of (excuses_from 0 done) n) ∙ excuses-are done n))
