-- Outputs that have the same values again, or none, stay as they are.
use Rattle.std.proofs.Common.{◌≡◌, ◌∙◌, ℕ, Bool, true, false, cond, List, [], ◌∷◌, Option, Some, None, Ordering, Less, Equal, Greater, is_eq, bytes_eq, nat_cmp, refl, sym, ap, subst}
use Rattle.std.proofs.lemmas.Cmp.{nat_list_cmp_total}
use Rattle.std.proofs.lemmas.Map.Text.{is_eq-slice_cmp}
use Rattle.std.proofs.lemmas.Slice.Eq.{bytes_eq-Decides}
use Rattle.std.specs.Cmp.Lexicographic.{slice_cmp}
use Rattle.std.specs.List.{AllByRecursion}
use Rattle.std.specs.List.Sorted.{IsStrictlySortedBy}
use Rattle.std.specs.Ordering.{match_ordering}
use Rattle.tf_config_json.specs.Config.{names_in}
use Rattle.tf_walk_outputs.specs.Outputs.{OutputResultView, excused, faulted, is_declared, is_null, kept_entries, not_evaluated, outputs_after, valued, with_output, with_outputs, without}
use Rattle.tf_expr_syntax.specs.ExprTree as expr
use Rattle.tf_value_data.proofs.Keys.{get-put, get-put_other}
use Rattle.tf_value_data.proofs.Tables.{sorted-put}
use Rattle.tf_value_data.specs.Tree.{Tree, Entries, entry, get, keys_of, no_entries, put}
use Rattle.tf_laws.proofs.Lists.{or_first, or_second}

-- ---- entries in byte order

abbrev IsOrdered : Entries → Type 0
IsOrdered es = IsStrictlySortedBy (slice_cmp nat_cmp) (keys_of es)

abbrev AreAfter : List ℕ → Entries → Type 0
AreAfter k es = AllByRecursion (λ l. slice_cmp nat_cmp k l ≡ Less) (keys_of es)

same_name : (k l : List ℕ) → bytes_eq k l ≡ true → k ≡ l
same_name k l e = (bytes_eq-Decides k l).0 e

less_apart : (k l : List ℕ) → slice_cmp nat_cmp k l ≡ Less → bytes_eq k l ≡ false
less_apart k l e = sym (is_eq-slice_cmp k l) ∙ ap is_eq e

apart_names : (k l : List ℕ) → slice_cmp nat_cmp k l ≡ Less → ¬ (k ≡ l)
apart_names k l e same = let yes : bytes_eq k l ≡ true = (bytes_eq-Decides k l).1 same in let no : bytes_eq k l ≡ false = less_apart k l e in absurd (cc)

after_later : (k l : List ℕ) (es : Entries) → slice_cmp nat_cmp k l ≡ Less → AreAfter l es → AreAfter k es
after_later k l no_entries below h = tt
after_later k l (entry m u es) below h = (nat_list_cmp_total.trans k l m below h.0, after_later k l es below h.1)

-- what stands before all of them isn't there
none_after : (k : List ℕ) (es : Entries) → AreAfter k es → get k es ≡ None
none_after k no_entries h = refl
none_after k (entry l u es) h = ap (λ (b : Bool). cond b (Some u) (get k es)) (less_apart k l h.0) ∙ none_after k es h.1

get_without_other : (k l : List ℕ) (es : Entries) → ¬ (l ≡ k) → get l (without k es) ≡ get l es
get_without_other k l no_entries other = refl
get_without_other k l (entry m u es) other = by_test (bytes_eq k m) refl (get_without_other k l es other)
  where
    skipped : (b : Bool) → bytes_eq l m ≡ b → k ≡ m → get l es ≡ cond b (Some u) (get l es)
    skipped false e same = refl
    skipped true e same = absurd (other (same_name l m e ∙ sym same))

    by_test : (b : Bool) → bytes_eq k m ≡ b → get l (without k es) ≡ get l es → get l (cond b es (entry m u (without k es))) ≡ get l (entry m u es)
    by_test true e again = skipped (bytes_eq l m) refl (same_name k m e)
    by_test false e again = ap (λ (r : Option Tree). cond (bytes_eq l m) (Some u) r) again

get_without : (k : List ℕ) (es : Entries) → IsOrdered es → get k (without k es) ≡ None
unfolding IsStrictlySortedBy
get_without k no_entries h = refl
get_without k (entry m u es) h = by_test (bytes_eq k m) refl (get_without k es h.1)
  where
    by_test : (b : Bool) → bytes_eq k m ≡ b → get k (without k es) ≡ None → get k (cond b es (entry m u (without k es))) ≡ None
    by_test true e again = none_after k es (subst (λ (j : List ℕ). AreAfter j es) (sym (same_name k m e)) h.0)
    by_test false e again = ap (λ (b : Bool). cond b (Some u) (get k (without k es))) e ∙ again

-- what is there is put there
put_same : (k : List ℕ) (t : Tree) (es : Entries) → IsOrdered es → get k es ≡ Some t → put k t es ≡ es
unfolding IsStrictlySortedBy
put_same k t no_entries h e = absurd (cc)
put_same k t (entry l u es) h e = by_order (slice_cmp nat_cmp k l) refl (λ f. put_same k t es h.1 f)
  where
    by_order : (o : Ordering) → slice_cmp nat_cmp k l ≡ o → (get k es ≡ Some t → put k t es ≡ es) → match_ordering o (entry k t (entry l u es)) (entry l t es) (entry l u (put k t es)) ≡ entry l u es
    by_order Less is again = let none : get k (entry l u es) ≡ None = none_after k (entry l u es) (is, after_later k l es is h.0) in let no : None ≡ Some t = sym none ∙ e in absurd (cc)
    by_order Equal is again =
        let found : bytes_eq k l ≡ true = sym (is_eq-slice_cmp k l) ∙ ap is_eq is in
        let both : Some u ≡ Some t = sym (ap (λ (b : Bool). cond b (Some u) (get k es)) found) ∙ e in
        let same : u ≡ t = (cc) in
        ap (λ (x : Tree). entry l x es) (sym same)
    by_order Greater is again =
        let other : bytes_eq k l ≡ false = sym (is_eq-slice_cmp k l) ∙ ap is_eq is in
        ap (entry l u) (again (sym (ap (λ (b : Bool). cond b (Some u) (get k es)) other) ∙ e))

-- what isn't there is taken from it
without_same : (k : List ℕ) (es : Entries) → get k es ≡ None → without k es ≡ es
without_same k no_entries e = refl
without_same k (entry m u es) e = by_test (bytes_eq k m) refl e (λ f. without_same k es f)
  where
    by_test : (b : Bool) → bytes_eq k m ≡ b → cond b (Some u) (get k es) ≡ None → (get k es ≡ None → without k es ≡ es) → cond b es (entry m u (without k es)) ≡ entry m u es
    by_test true is f again = absurd (cc)
    by_test false is f again = ap (entry m u) (again f)

later_at : (b : Bool) (l k : List ℕ) (t : Tree) (es left : Entries) → AreAfter l (entry k t es) → AreAfter l left → AreAfter l (cond b es (entry k t left))
later_at true l k t es left h rest = h.1
later_at false l k t es left h rest = (h.0, rest)

later_without : (l k : List ℕ) (es : Entries) → AreAfter l es → AreAfter l (without k es)
later_without l k no_entries h = tt
later_without l k (entry m u es) h = later_at (bytes_eq k m) l m u es (without k es) h (later_without l k es h.1)

ordered_at : (b : Bool) (k : List ℕ) (t : Tree) (es left : Entries) → IsOrdered (entry k t es) → AreAfter k left → IsOrdered left → IsOrdered (cond b es (entry k t left))
unfolding IsStrictlySortedBy
ordered_at true k t es left h later rest = h.1
ordered_at false k t es left h later rest = (later, rest)

ordered_without : (k : List ℕ) (es : Entries) → IsOrdered es → IsOrdered (without k es)
unfolding IsStrictlySortedBy
ordered_without k no_entries h = h
ordered_without k (entry m u es) h = ordered_at (bytes_eq k m) m u es (without k es) h (later_without m k es h.0) (ordered_without k es h.1)

-- ---- one output

-- entries have what came of an output: its value, or no entry where that is null
abbrev HasBy : Bool → List ℕ → Tree → Entries → Type 0
HasBy true name t found = get name found ≡ None
HasBy false name t found = get name found ≡ Some t

abbrev HasDone : List ℕ → OutputResultView → Entries → Type 0
HasDone name (valued t) found = HasBy (is_null t) name t found
HasDone name _ found = Unit {0}

saved_has : (name : List ℕ) (t : Tree) (found : Entries) (b : Bool) → IsOrdered found → HasBy b name t (cond b (without name found) (put name t found))
saved_has name t found true h = get_without name found h
saved_has name t found false h = get-put name t found

done_has : (name : List ℕ) (d : OutputResultView) (found : Entries) → IsOrdered found → HasDone name d (with_output name d found)
done_has name (valued t) found h = saved_has name t found (is_null t) h
done_has name not_evaluated found h = tt
done_has name excused found h = tt
done_has name (faulted why) found h = tt

get_other : (name other : List ℕ) (d : OutputResultView) (found : Entries) → ¬ (name ≡ other) → get name (with_output other d found) ≡ get name found
get_other name other not_evaluated found apart = refl
get_other name other excused found apart = refl
get_other name other (faulted why) found apart = refl
get_other name other (valued t) found apart = by_null (is_null t)
  where
    by_null : (b : Bool) → get name (cond b (without other found) (put other t found)) ≡ get name found
    by_null true = get_without_other other name found apart
    by_null false = get-put_other other name t found apart

has_by_too : (b : Bool) (name : List ℕ) (t : Tree) (found more : Entries) → get name more ≡ get name found → HasBy b name t found → HasBy b name t more
has_by_too true name t found more e h = e ∙ h
has_by_too false name t found more e h = e ∙ h

has_too : (name : List ℕ) (d : OutputResultView) (found more : Entries) → get name more ≡ get name found → HasDone name d found → HasDone name d more
has_too name (valued t) found more e h = has_by_too (is_null t) name t found more e h
has_too name not_evaluated found more e h = tt
has_too name excused found more e h = tt
has_too name (faulted why) found more e h = tt

ordered_output : (name : List ℕ) (d : OutputResultView) (found : Entries) → IsOrdered found → IsOrdered (with_output name d found)
ordered_output name not_evaluated found h = h
ordered_output name excused found h = h
ordered_output name (faulted why) found h = h
ordered_output name (valued t) found h = by_null (is_null t)
  where
    by_null : (b : Bool) → IsOrdered (cond b (without name found) (put name t found))
    by_null true = ordered_without name found h
    by_null false = sorted-put name t found h

-- ---- all outputs

abbrev AllHave : expr.Entries → List OutputResultView → Entries → Type 0
AllHave (expr.entry name e es) (d ∷ ds) found = HasDone name d found × AllHave es ds found
AllHave _ _ found = Unit {0}

ordered_outputs : (es : expr.Entries) (ds : List OutputResultView) (found : Entries) → IsOrdered found → IsOrdered (with_outputs es ds found)
ordered_outputs expr.no_entries ds found h = h
ordered_outputs (expr.entry name e es) [] found h = h
ordered_outputs (expr.entry name e es) (d ∷ ds) found h = ordered_outputs es ds (with_output name d found) (ordered_output name d found h)

-- those of other names stay
stays_through : (name : List ℕ) (d : OutputResultView) (es : expr.Entries) (ds : List OutputResultView) (found : Entries) → AllByRecursion (λ l. slice_cmp nat_cmp name l ≡ Less) (names_in es) → HasDone name d found → HasDone name d (with_outputs es ds found)
stays_through name d expr.no_entries ds found h has = has
stays_through name d (expr.entry k e es) [] found h has = has
stays_through name d (expr.entry k e es) (f ∷ ds) found h has =
    stays_through name d es ds (with_output k f found) h.1 (has_too name d found (with_output k f found) (get_other name k f found (apart_names name k h.0)) has)

all_have : (es : expr.Entries) (ds : List OutputResultView) (found : Entries) → IsOrdered found → IsStrictlySortedBy (slice_cmp nat_cmp) (names_in es) → AllHave es ds (with_outputs es ds found)
unfolding IsStrictlySortedBy
all_have expr.no_entries ds found h sorted = tt
all_have (expr.entry name e es) [] found h sorted = tt
all_have (expr.entry name e es) (d ∷ ds) found h sorted = (
  stays_through name d es ds (with_output name d found) sorted.0 (done_has name d found h),
  all_have es ds (with_output name d found) (ordered_output name d found h) sorted.1,
)

-- ---- the same values again

-- what comes of an output again: the value that it has, or none
abbrev pub IsRepeated : OutputResultView → OutputResultView → Type 0
IsRepeated d (valued t) = d ≡ valued t
IsRepeated d _ = Unit {0}

abbrev pub AreRepeated : expr.Entries → List OutputResultView → List OutputResultView → Type 0
AreRepeated (expr.entry name e es) (d ∷ ds) (f ∷ fs) = IsRepeated d f × AreRepeated es ds fs
AreRepeated (expr.entry name e es) [] (f ∷ fs) = ⊥
AreRepeated _ _ _ = Unit {0}

saved_same : (b : Bool) (name : List ℕ) (t : Tree) (found : Entries) → IsOrdered found → HasBy b name t found → cond b (without name found) (put name t found) ≡ found
saved_same true name t found h has = without_same name found has
saved_same false name t found h has = put_same name t found h has

output_same : (name : List ℕ) (d f : OutputResultView) (found : Entries) → IsOrdered found → HasDone name d found → IsRepeated d f → with_output name f found ≡ found
output_same name d not_evaluated found h has again = refl
output_same name d excused found h has again = refl
output_same name d (faulted why) found h has again = refl
output_same name d (valued t) found h has again = saved_same (is_null t) name t found h (subst (λ (x : OutputResultView). HasDone name x found) again has)

outputs_same : (es : expr.Entries) (ds fs : List OutputResultView) (found : Entries) → IsOrdered found → AllHave es ds found → AreRepeated es ds fs → with_outputs es fs found ≡ found
outputs_same expr.no_entries ds fs found h has again = refl
outputs_same (expr.entry name e es) ds [] found h has again = refl
outputs_same (expr.entry name e es) [] (f ∷ fs) found h has again = absurd again
outputs_same (expr.entry name e es) (d ∷ ds) (f ∷ fs) found h has again =
    ap (with_outputs es fs) (output_same name d f found h has.0 again.0) ∙ outputs_same es ds fs found h has.1 again.1

-- ---- all of them are declared

abbrev AllDeclared : expr.Entries → Entries → Type 0
AllDeclared es no_entries = Unit {0}
AllDeclared es (entry k t found) = (is_declared es k ≡ true) × AllDeclared es found

kept_declared : (es : expr.Entries) (found : Entries) → AllDeclared es (kept_entries es found)
kept_declared es no_entries = tt
kept_declared es (entry k t found) = by_test (is_declared es k) refl (kept_declared es found)
  where
    by_test : (b : Bool) → is_declared es k ≡ b → AllDeclared es (kept_entries es found) → AllDeclared es (cond b (entry k t (kept_entries es found)) (kept_entries es found))
    by_test true e again = (e, again)
    by_test false e again = again

kept_same : (es : expr.Entries) (found : Entries) → AllDeclared es found → kept_entries es found ≡ found
kept_same es no_entries h = refl
kept_same es (entry k t found) h = ap (λ (b : Bool). cond b (entry k t (kept_entries es found)) (kept_entries es found)) h.0 ∙ ap (entry k t) (kept_same es found h.1)

put_declared : (all : expr.Entries) (k : List ℕ) (t : Tree) (found : Entries) → is_declared all k ≡ true → AllDeclared all found → AllDeclared all (put k t found)
put_declared all k t no_entries d h = (d, tt)
put_declared all k t (entry l u found) d h = by_order (slice_cmp nat_cmp k l) (put_declared all k t found d h.1)
  where
    by_order : (o : Ordering) → AllDeclared all (put k t found) → AllDeclared all (match_ordering o (entry k t (entry l u found)) (entry l t found) (entry l u (put k t found)))
    by_order Less again = (d, h)
    by_order Equal again = h
    by_order Greater again = (h.0, again)

without_declared : (all : expr.Entries) (k : List ℕ) (found : Entries) → AllDeclared all found → AllDeclared all (without k found)
without_declared all k no_entries h = tt
without_declared all k (entry m u found) h = by_test (bytes_eq k m) (without_declared all k found h.1)
  where
    by_test : (b : Bool) → AllDeclared all (without k found) → AllDeclared all (cond b found (entry m u (without k found)))
    by_test true again = h.1
    by_test false again = (h.0, again)

output_declared : (all : expr.Entries) (k : List ℕ) (d : OutputResultView) (found : Entries) → is_declared all k ≡ true → AllDeclared all found → AllDeclared all (with_output k d found)
output_declared all k not_evaluated found is h = h
output_declared all k excused found is h = h
output_declared all k (faulted why) found is h = h
output_declared all k (valued t) found is h = by_null (is_null t)
  where
    by_null : (b : Bool) → AllDeclared all (cond b (without k found) (put k t found))
    by_null true = without_declared all k found h
    by_null false = put_declared all k t found is h

outputs_declared : (all es : expr.Entries) (ds : List OutputResultView) (found : Entries) → AllByRecursion (λ k. is_declared all k ≡ true) (names_in es) → AllDeclared all found → AllDeclared all (with_outputs es ds found)
outputs_declared all expr.no_entries ds found are h = h
outputs_declared all (expr.entry k e es) [] found are h = h
outputs_declared all (expr.entry k e es) (d ∷ ds) found are h = outputs_declared all es ds (with_output k d found) are.1 (output_declared all k d found are.0 h)

more_declared : (k : List ℕ) (e : expr.Tree) (es : expr.Entries) (ks : List (List ℕ)) → AllByRecursion (λ l. is_declared es l ≡ true) ks → AllByRecursion (λ l. is_declared (expr.entry k e es) l ≡ true) ks
more_declared k e es [] h = tt
more_declared k e es (l ∷ ks) h = (or_second (bytes_eq l k) (is_declared es l) h.0, more_declared k e es ks h.1)

own_declared : (es : expr.Entries) → AllByRecursion (λ k. is_declared es k ≡ true) (names_in es)
own_declared expr.no_entries = tt
own_declared (expr.entry k e es) = (or_first (bytes_eq k k) (is_declared es k) ((bytes_eq-Decides k k).1 refl), more_declared k e es (names_in es) (own_declared es))

-- so outputs stay as they are
later_kept : (es : expr.Entries) (l : List ℕ) (found : Entries) → AreAfter l found → AreAfter l (kept_entries es found)
later_kept es l no_entries h = tt
later_kept es l (entry k t found) h = by_test (is_declared es k) (later_kept es l found h.1)
  where
    by_test : (b : Bool) → AreAfter l (kept_entries es found) → AreAfter l (cond b (entry k t (kept_entries es found)) (kept_entries es found))
    by_test true again = (h.0, again)
    by_test false again = again

ordered_kept : (es : expr.Entries) (found : Entries) → IsOrdered found → IsOrdered (kept_entries es found)
unfolding IsStrictlySortedBy
ordered_kept es no_entries h = h
ordered_kept es (entry k t found) h = by_test (is_declared es k) (later_kept es k found h.0) (ordered_kept es found h.1)
  where
    by_test : (b : Bool) → AreAfter k (kept_entries es found) → IsOrdered (kept_entries es found) → IsOrdered (cond b (entry k t (kept_entries es found)) (kept_entries es found))
    by_test true later again = (later, again)
    by_test false later again = again

pub outputs_stay : (es : expr.Entries) (ds fs : List OutputResultView) (found : Entries) → IsOrdered found → IsStrictlySortedBy (slice_cmp nat_cmp) (names_in es) → AreRepeated es ds fs
    → outputs_after (outputs_after found es ds) es fs ≡ outputs_after found es ds
outputs_stay es ds fs found h sorted again =
    let saved = with_outputs es ds (kept_entries es found) in
    let ordered = ordered_kept es found h in
    ap (with_outputs es fs) (kept_same es saved (outputs_declared es es ds (kept_entries es found) (own_declared es) (kept_declared es found)))
    ∙ outputs_same es ds fs saved (ordered_outputs es ds (kept_entries es found) ordered) (all_have es ds (kept_entries es found) ordered sorted) again
