-- Values so far, and the next one.
use Rattle.std.proofs.Common.{◌≡◌, List, [], ◌∷◌, ◌++◌, Option, Some, Ok, Err, is_some, String, Global, Greater, string_bytes, string_cmp, nat_cmp, BTreeMap, refl, sym, ap, ◌∙◌, subst, append_assoc}
use Rattle.std.proofs.lemmas.Cmp.{nat_list_cmp_total}
use Rattle.std.specs.Cmp.Lexicographic.{slice_cmp}
use Rattle.std.specs.List.Sorted.{IsStrictlySortedBy}
use Rattle.std.specs.Map.{keys_of}
use Rattle.std.specs.Prelude.{IsTrue, MatchResult, Result}
use Rattle.std.specs.Ordering.{ordering_reverse}
use Rattle.serde_json.specs.Data.{Data}
use Rattle.tf_config_data.specs.Config.{variable_of, variables_of}
use Rattle.tf_config_data.specs.declared.variable.Variable.{Variable}
use Rattle.tf_value_data.proofs.Views.{below_middle}
use Rattle.tf_value_data.specs.Tree.{Tree, Entries, no_entries, entry, put, entries_view}
use Rattle.tf_value_data.specs.declared.value.Value.{Value}
use Rattle.tf_config_json.proofs.Walks.{IsLeft, left_more, left_refused}
use Rattle.tf_config_json.specs.Demand.{AreMet, IsMet, Fails, Refuses}
use Rattle.tf_config_refusal.specs.Refusal.{RefusalView, refusal_of}
use Rattle.tf_config_refusal.specs.declared.refusal.Refusal.{Refusal}
use Rattle.tf_config_json.specs.Values.{given, value_for, AreValues, literal_at, file_checks, value_check, value_checks, HasNone, RefusesValues}

abbrev pub Entry : Type 0
Entry = String Global × Variable

-- the value of the next variable goes last
pub values_more : (file : Option Data) (done : List Entry) (e : Entry) (more : List Entry) (t : Tree) (es : Entries) → IsStrictlySortedBy string_cmp (keys_of (done ++ e ∷ more))
    → value_for file (variable_of e) ≡ Some t → AreValues file (variables_of done) es → AreValues file (variables_of (done ++ e ∷ [])) (put (string_bytes e.0) t es)
unfolding IsStrictlySortedBy
values_more file [] e more t no_entries sorted is values = (refl, is, tt)
values_more file [] e more t (entry name u es) sorted is values = absurd values
values_more file (first ∷ done) e more t no_entries sorted is values = absurd values
values_more file (first ∷ done) e more t (entry name u es) sorted is values =
    let above : slice_cmp nat_cmp (string_bytes e.0) (string_bytes first.0) ≡ Greater =
    nat_list_cmp_total.antisymm (string_bytes e.0) (string_bytes first.0) ∙ ap ordering_reverse (below_middle first.0 done e more sorted.0) in
    let here : slice_cmp nat_cmp (string_bytes e.0) name ≡ Greater = rw values.0 above in
    rw here (values.0, values.1, values_more file done e more t es sorted.1 is values.2)

-- values so far: of those before what is left
abbrev pub AreShown : Option Data → (all left : List Entry) → Entries → Type 0
AreShown file all left values = (done : List Entry) × (all ≡ done ++ left) × AreValues file (variables_of done) values

pub shown_next : (file : Option Data) (all left : List Entry) (e : Entry) (more : List Entry) (t : Tree) (values now : Entries) → IsStrictlySortedBy string_cmp (keys_of all) → left ≡ e ∷ more
    → value_for file (variable_of e) ≡ Some t → now ≡ put (string_bytes e.0) t values → AreShown file all left values → AreShown file all more now
shown_next file all left e more t values now sorted steps is puts (done, before, values_are) =
    let whole : all ≡ done ++ e ∷ more = before ∙ ap (λ es. done ++ es) steps in (
      done ++ e ∷ [],
      whole ∙ sym (append_assoc done (e ∷ []) more),
      rw puts (values_more file done e more t values (subst (λ es. IsStrictlySortedBy string_cmp (keys_of es)) whole sorted) is values_are),
    )

-- where the values so far are known, so is it that the checks before are met
abbrev pub IsAnswer : Option Data → (all left : List Entry) → Result (BTreeMap (String Global) Value) Refusal → Type 0
IsAnswer file all left answer =
    MatchResult answer
    (λ values. IsLeft IsTrue (value_checks file (variables_of all)) (value_checks file (variables_of left)) × AreShown file all left (entries_view values.entries))
    (λ refusal. RefusesValues (value_checks file (variables_of all)) (refusal_of refusal))

-- the literals so far are read, and there are values, or a first variable without one
abbrev pub AreRead : Option Data → (all left : List Entry) → Result (BTreeMap (String Global) Value) Refusal → Type 0
AreRead file all left answer = IsLeft IsMet (file_checks file (variables_of all)) (file_checks file (variables_of left)) × IsAnswer file all left answer

-- the next variable has a value, or is the first without one; what was told before stays
abbrev pub IsNext : Option Data → Entry → Result (BTreeMap (String Global) Value) Refusal → Result (BTreeMap (String Global) Value) Refusal → Type 0
IsNext file e answer now =
    MatchResult answer
    (λ values.
    MatchResult now (λ after. (t : Tree) × (value_for file (variable_of e) ≡ Some t) × (entries_view after.entries ≡ put (string_bytes e.0) t (entries_view values.entries)))
    (λ refusal. RefusesValues (value_check file (variable_of e)) (refusal_of refusal)))
    (λ before. now ≡ Err before)

answer_next : (file : Option Data) (all left : List Entry) (e : Entry) (more : List Entry) (answer now : Result (BTreeMap (String Global) Value) Refusal) → IsStrictlySortedBy string_cmp (keys_of all)
    → left ≡ e ∷ more → IsNext file e answer now → IsAnswer file all left answer → IsAnswer file all more now
answer_next file all left e more (Ok values) (Ok after) sorted steps next so_far =
    let all_checks = value_checks file (variables_of all) in (
      left_more IsTrue all_checks (value_check file (variable_of e)) (value_checks file (variables_of more)) (rw steps at so_far.0) (ap is_some next.1, tt),
      shown_next file all left e more next.0 (entries_view values.entries) (entries_view after.entries) sorted steps next.1 next.2 so_far.1,
    )
answer_next file all left e more (Ok values) (Err refusal) sorted steps next so_far =
    left_refused IsTrue HasNone (value_checks file (variables_of all)) (value_check file (variable_of e)) (value_checks file (variables_of more)) (refusal_of refusal) (rw steps at so_far.0) next
answer_next file all left e more (Err before) now sorted steps next so_far = subst (λ answer. IsAnswer file all more answer) (sym next) so_far

pub read_next : (file : Option Data) (all left : List Entry) (e : Entry) (more : List Entry) (answer now : Result (BTreeMap (String Global) Value) Refusal) → IsStrictlySortedBy string_cmp (keys_of all)
    → left ≡ e ∷ more → AreMet (literal_at (string_bytes e.0) (given file (string_bytes e.0))) → IsNext file e answer now → AreRead file all left answer → AreRead file all more now
read_next file all left e more answer now sorted steps literal next (checks, so_far) = (
  left_more IsMet (file_checks file (variables_of all)) (literal_at (string_bytes e.0) (given file (string_bytes e.0))) (file_checks file (variables_of more)) (rw steps at checks) literal,
  answer_next file all left e more answer now sorted steps next so_far,
)

-- the first fault in what the file gives the next variable
pub refused_next : (file : Option Data) (all left : List Entry) (e : Entry) (more : List Entry) (answer : Result (BTreeMap (String Global) Value) Refusal) (t : RefusalView) → left ≡ e ∷ more
    → AreRead file all left answer → Refuses (literal_at (string_bytes e.0) (given file (string_bytes e.0))) t → Refuses (file_checks file (variables_of all)) t
refused_next file all left e more answer t steps (checks, so_far) first =
    left_refused IsMet Fails (file_checks file (variables_of all)) (literal_at (string_bytes e.0) (given file (string_bytes e.0))) (file_checks file (variables_of more)) t (rw steps at checks) first
