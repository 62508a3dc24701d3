-- The entries of a journal.
use Rattle.std.proofs.Common.{◌≡◌, ℕ, Bool, true, false, ◌||◌, cond, eqb, List, [], ◌∷◌, ◌++◌, Option, Some, None, option_map, refl, ap, ◌∙◌}
use Rattle.std.specs.Prelude.{is_some, unwrap_or, find, option_and_then}
use Rattle.std.specs.List.{list_all}
use Rattle.tf_graph.specs.Digraph.{predecessors_of}
use Rattle.tf_provider.specs.declared.journal.Entry.{Entry}
use Rattle.tf_provider.specs.Entries.{Log, is_entered, fault_of}
use Rattle.tf_walk_single.specs.Ends.{end_at, done_in}
use Rattle.tf_walk_action.specs.Outcome.{ActionResultView, skipped, excused, faulted, called, is_good}
use Rattle.tf_walk_action.specs.Journal.{verdict_in, entered_verdict}
use Rattle.tf_walk_single.proofs.Seen.{list_all-weaker}
use Rattle.std.proofs.lemmas.Bool.Decides.{nat_tests}
use Rattle.std.proofs.Common.{arith}

eqb-turned : (a b : ℕ) → eqb a b ≡ eqb b a
eqb-turned a b = grind (arith, nat_tests)

entered_at : (b : Bool) (e : Entry) (rest : Option Entry) (r : Bool) → r ≡ is_some (option_map (λ (x : Entry). x.verdict) rest) → (b || r) ≡ is_some (option_map (λ (x : Entry). x.verdict) (cond b (Some e) rest))
entered_at true e rest r h = refl
entered_at false e rest r h = h

-- an action is entered where it has a verdict
pub is_entered-verdict : (es : List Entry) (n : ℕ) → is_entered es n ≡ is_some (verdict_in es n)
is_entered-verdict [] n = refl
is_entered-verdict (e ∷ es) n =
    ap (λ (b : Bool). b || is_entered es n) (eqb-turned n e.action) ∙ entered_at (eqb e.action n) e (find (λ (x : Entry). eqb x.action n) es) (is_entered es n) (is_entered-verdict es n)

pushed_none : (b : Bool) (e : Entry) → option_map (λ (x : Entry). x.verdict) (cond b (Some e) None) ≡ cond b (Some e.verdict) None
pushed_none true e = refl
pushed_none false e = refl

apart : (x e : Entry) (rest : Option Entry) → option_map (λ (y : Entry). y.verdict) (cond (eqb x.action e.action) (Some x) rest) ≡ None → eqb x.action e.action ≡ false
apart x e rest h = at (eqb x.action e.action) h
  where
    at : (b : Bool) → option_map (λ (y : Entry). y.verdict) (cond b (Some x) rest) ≡ None → b ≡ false
    at true k = cc
    at false k = refl

rest_none : (b : Bool) (x : Entry) (rest : Option Entry) → option_map (λ (y : Entry). y.verdict) (cond b (Some x) rest) ≡ None → option_map (λ (y : Entry). y.verdict) rest ≡ None
rest_none true x rest h = cc
rest_none false x rest h = h

both_tests : (a b n : ℕ) → eqb a b ≡ false → eqb a n ≡ true → eqb b n ≡ false
both_tests a b n h k = grind (arith, nat_tests)

pushed_at : (b c : Bool) (x e : Entry) (rest all : Option Entry) → (b ≡ true → c ≡ false) → option_map (λ (y : Entry). y.verdict) all ≡ cond c (Some e.verdict) (option_map (λ (y : Entry). y.verdict) rest)
    → option_map (λ (y : Entry). y.verdict) (cond b (Some x) all) ≡ cond c (Some e.verdict) (option_map (λ (y : Entry). y.verdict) (cond b (Some x) rest))
pushed_at true c x e rest all f h = rw (f refl) refl
pushed_at false c x e rest all f h = h

-- an entry at the end is found where none of its action stood before
pub verdict_in-push : (es : List Entry) (e : Entry) (n : ℕ) → verdict_in es e.action ≡ None → verdict_in (es ++ e ∷ []) n ≡ cond (eqb e.action n) (Some e.verdict) (verdict_in es n)
verdict_in-push [] e n h = pushed_none (eqb e.action n) e
verdict_in-push (x ∷ es) e n h =
    let other : eqb x.action e.action ≡ false = apart x e (find (λ (y : Entry). eqb y.action e.action) es) h in
    let later : verdict_in es e.action ≡ None = rest_none (eqb x.action e.action) x (find (λ (y : Entry). eqb y.action e.action) es) h in
    pushed_at (eqb x.action n) (eqb e.action n) x e (find (λ (y : Entry). eqb y.action n) es) (find (λ (y : Entry). eqb y.action n) (es ++ e ∷ [])) (λ k. both_tests x.action e.action n other k) (verdict_in-push es e n later)

-- an action that is good was called
good_entered : (o : Option ActionResultView) → is_good (unwrap_or o skipped) ≡ true → is_some (option_and_then entered_verdict o) ≡ true
good_entered None h = absurd (cc)
good_entered (Some skipped) h = absurd (cc)
good_entered (Some (excused m)) h = absurd (cc)
good_entered (Some (faulted why)) h = absurd (cc)
good_entered (Some (called r a v)) h = refl

-- where all actions directly before an action are good, and it hasn't ended, its call may be recorded
pub may_record : (log : Log) (ends : List (Option ActionResultView)) (n : ℕ) → ((m : ℕ) → verdict_in log.entries m ≡ option_and_then entered_verdict (end_at ends m)) → end_at ends n ≡ None
    → list_all (λ m. is_good (done_in ends m)) (predecessors_of log.graph n) ≡ true → fault_of log n ≡ None
may_record log ends n entered free good =
    let before : list_all (is_entered log.entries) (predecessors_of log.graph n) ≡ true =
    list_all-weaker (λ m. is_good (done_in ends m)) (is_entered log.entries) (predecessors_of log.graph n) (λ m h. is_entered-verdict log.entries m ∙ (ap is_some (entered m) ∙ good_entered (end_at ends m) h)) good in
    let here : is_entered log.entries n ≡ false = is_entered-verdict log.entries n ∙ (ap is_some (entered n) ∙ ap (λ (o : Option ActionResultView). is_some (option_and_then entered_verdict o)) free) in
    rw (before, here) refl
