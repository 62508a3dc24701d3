-- Where the status of an apply is 0, each action is good and each output has a value.
use Rattle.std.proofs.Common.{◌≡◌, ◌∙◌, ◌<◌, ℕ, zero, suc, Bool, true, false, not, ◌&&◌, ◌||◌, ◌++◌, List, [], ◌∷◌, Option, Some, None, length, map, refl, sym, subst, arith}
use Rattle.std.specs.List.{AllByRecursion, list_all}
use Rattle.std.specs.Prelude.{MatchBool}
use Rattle.tf_plan_data.specs.Action.{ActionView}
use Rattle.tf_walk_report.specs.Diagnostics.{action_diagnostics, diagnostic_of}
use Rattle.tf_walk_report.specs.declared.diagnostic.Diagnostic.{Diagnostic}
use Rattle.tf_config_address.specs.ObjectId.{InstanceKeyView}
use Rattle.tf_laws.proofs.TextsAgain.{good_outcomes, success}
use Rattle.tf_laws.proofs.PlannedOverTexts.{plan_ranked}
use Rattle.tf_cli_text.specs.Shown.{all_good, cant_write, is_empty, is_good_outcome, is_torn}
use Rattle.tf_config_data.specs.Names.{Meant, NameView, a_block, a_local, directly_before, meant_at, places}
use Rattle.tf_laws.specs.Reapply.{IsValued}
use Rattle.tf_expand_keys.proofs.Places.{all_places, along, names_stay}
use Rattle.tf_expand_keys.specs.InstanceKeys.{InstanceKeysView}
use Rattle.tf_graph.specs.Solutions.{Ranked, seen_by}
use Rattle.tf_walk_action.specs.Outcome.{ActionResultView, called, excused, faulted, is_good, skipped}
use Rattle.tf_walk_action.specs.declared.excuse.Outcome.{Outcome}
use Rattle.tf_walk_outputs.specs.Outputs as outputs
use Rattle.tf_walk_outputs.specs.Outputs.{AreOutputsDone, IsEvaluated, OutputResultView, end_of}
use Rattle.tf_walk_outputs.specs.Settled.{AreSettled, all_settled, names_are_settled, settled_as}
use Rattle.tf_plan_data.specs.Plan.{PlanView, plan_names}
use Rattle.tf_provider_protocol.specs.Meaning.{Meaning}
use Rattle.tf_walk_report.specs.Good.{are_good_at, is_apply_of}
use Rattle.tf_walk_report.specs.Outcomes.{outcome_of}
use Rattle.tf_walk_report.specs.OutputsTold.{diagnostics_of_output, output_diagnostics, output_place}
use Rattle.tf_walk_report.specs.Report.{IsReported, report_of}
use Rattle.tf_walk_report.specs.declared.report.Report.{Report}
use Rattle.tf_expr_syntax.specs.ExprNames.{named_by}
use Rattle.tf_expr_syntax.specs.ExprTree as expr
use Rattle.tf_value_data.proofs.Conjunction.{and-both, and-first, and-second}
use Rattle.tf_value_data.specs.Tree.{Entries, Tree}
use Rattle.tf_laws.specs.Success.{SuccessIsComplete}

-- ---- the status

not_false : (b : Bool) → not b ≡ true → b ≡ false
not_false false h = refl
not_false true h = absurd (cc)

-- ---- outcomes

good_done : (d : ActionResultView) → is_good_outcome (outcome_of d) ≡ true → is_good d ≡ true
good_done skipped h = absurd (cc)
good_done (excused m) h = absurd (cc)
good_done (faulted why) h = absurd (cc)
good_done (called asked answer v) h = h

all_done_good : (done : List ActionResultView) → list_all is_good_outcome (map outcome_of done) ≡ true → AllByRecursion (λ d. is_good d ≡ true) done
all_done_good [] h = tt
all_done_good (d ∷ done) h = (
  good_done d (and-first (is_good_outcome (outcome_of d)) (list_all is_good_outcome (map outcome_of done)) h),
  all_done_good done (and-second (is_good_outcome (outcome_of d)) (list_all is_good_outcome (map outcome_of done)) h),
)

or_true : (b c : Bool) → c ≡ true → (b || c) ≡ true
or_true true c h = refl
or_true false c h = h

-- where each action is good, so are all of each resource
good_everywhere : (actions : List ActionView) (done : List ActionResultView) (n : ℕ) → AllByRecursion (λ d. is_good d ≡ true) done → are_good_at actions done n ≡ true
good_everywhere [] done n h = refl
good_everywhere (a ∷ actions) [] n h = refl
good_everywhere (a ∷ actions) (d ∷ done) n h =
    and-both (not (is_apply_of n a) || is_good d) (are_good_at actions done n) (or_true (not (is_apply_of n a)) (is_good d) h.0) (good_everywhere actions done n h.1)

-- ---- then each name is settled

something_at : (names : List NameView) (n : ℕ) → n < length names → meant_at names n ≡ None → ⊥
something_at [] n h none = omega (arith, h)
something_at (m ∷ names) zero h none = absurd (cc)
something_at (m ∷ names) (suc n) h none = something_at names n (omega (arith, h)) none

module _ (names : List NameView) (good settled : ℕ → Bool) (ranked : Ranked (directly_before names)) (each : (n : ℕ) → good n ≡ true) (are : AreSettled names good settled) where
  all_seen : (ns : List ℕ) → AllByRecursion (λ n. settled n ≡ true) ns → all_settled (seen_by settled ns) ≡ true
  all_seen [] h = refl
  all_seen (n ∷ ns) h = and-both (settled n) (all_settled (seen_by settled ns)) h.0 (all_seen ns h.1)

  settled_there : (n : ℕ) (m : Option Meant) → meant_at names n ≡ m → n < length names → (all : Bool) → all ≡ true → settled_as m (good n) all ≡ true
  settled_there n None is h all e = absurd (something_at names n h is)
  settled_there n (Some (a_local x)) is h all e = e
  settled_there n (Some (a_block b)) is h all e = each n

  settled_all : (n : ℕ) → n < length names → settled n ≡ true
  settled_all =
      along (length names) (directly_before names) (λ n. settled n ≡ true) ranked (names_stay names)
      (λ n h before. are n h ∙ settled_there n (meant_at names n) refl h (all_settled (seen_by settled (directly_before names n))) (all_seen (directly_before names n) before))

  pub all_named : (e : expr.Tree) → names_are_settled names settled e ≡ true
  all_named e = all_seen (places names (named_by e)) (all_places (λ n. settled n ≡ true) names (named_by e) settled_all)

-- ---- outputs

evaluated : (P Q : Type 0) (b : Bool) → b ≡ true → MatchBool b P Q → P
evaluated P Q true e h = h
evaluated P Q false e h = absurd (cc)

append_none : {A : Type 0} (xs ys : List A) → xs ++ ys ≡ [] → (xs ≡ []) × (ys ≡ [])
append_none [] ys h = (refl, h)
append_none (x ∷ xs) ys h = absurd (cc)

module _ (variables : Entries) (names : List NameView) (shapes : ℕ → InstanceKeysView) (objects : ℕ → InstanceKeyView → Tree) (settled : ℕ → Bool) (all : (e : expr.Tree) → names_are_settled names settled e ≡ true) where
  valued_one : (place : List ℕ) (e : expr.Tree) (d : OutputResultView) → IsEvaluated variables names shapes objects e d → diagnostics_of_output place (end_of d) ≡ [] → IsValued d
  valued_one place e outputs.not_evaluated is none = absurd is
  valued_one place e outputs.excused is none = absurd (cc)
  valued_one place e (outputs.valued t) is none = (t, refl)
  valued_one place e (outputs.faulted why) is none = absurd (cc)

  valued_all : (es : expr.Entries) (ds : List OutputResultView) → AreOutputsDone variables names shapes objects settled es ds → output_diagnostics es (map end_of ds) ≡ [] → AllByRecursion IsValued ds
  valued_all expr.no_entries [] are none = tt
  valued_all expr.no_entries (d ∷ ds) are none = absurd are
  valued_all (expr.entry name e es) [] are none = absurd are
  valued_all (expr.entry name e es) (d ∷ ds) are none =
      let parts = append_none (diagnostics_of_output (output_place name) (end_of d)) (output_diagnostics es (map end_of ds)) none in (
        valued_one (output_place name) e d (evaluated (IsEvaluated variables names shapes objects e d) (d ≡ outputs.not_evaluated) (names_are_settled names settled e) (all e) are.0) parts.0,
        valued_all es ds are.1 parts.1,
      )

none_told : (ds : List Diagnostic) → is_empty ds ≡ true → map diagnostic_of ds ≡ []
none_told [] h = refl
none_told (d ∷ ds) h = absurd (cc)

pub each_valued : (ms : List Meaning) (plan : PlanView) (report : Report) → Ranked (directly_before (plan_names plan)) → (told : IsReported ms plan report) → all_good report ≡ true → AllByRecursion IsValued told.outputs
each_valued ms plan report ranked told h =
    let is = told.is_report.told in
    let good = all_done_good told.done (subst (λ (os : List Outcome). list_all is_good_outcome os ≡ true) is.outcomes (and-first (list_all is_good_outcome report.outcomes.items) (is_empty report.diagnostics.items) h)) in
    let none : action_diagnostics plan.actions told.done ++ output_diagnostics plan.config.outputs (map end_of told.outputs) ≡ [] =
    sym is.diagnostics_told ∙ none_told report.diagnostics.items (and-second (list_all is_good_outcome report.outcomes.items) (is_empty report.diagnostics.items) h) in
    let parts = append_none (action_diagnostics plan.actions told.done) (output_diagnostics plan.config.outputs (map end_of told.outputs)) none in
    let done = is.outputs_done in
    valued_all plan.variables (plan_names plan) plan.shapes _ done.0
    (all_named (plan_names plan) (are_good_at plan.actions told.done) done.0 ranked (λ n. good_everywhere plan.actions told.done n good) done.1)
    plan.config.outputs told.outputs done.2 parts.1

-- ---- together

pub success_complete : SuccessIsComplete
success_complete ms texts lineage a is status =
    let ended = success (cant_write a) (all_good (report_of a.walked) && not (is_torn a.walked)) status in
    let good : all_good (report_of a.walked) ≡ true = and-first (all_good (report_of a.walked)) (not (is_torn a.walked)) ended.1 in
    record {
      good = good_outcomes (report_of a.walked).outcomes.items (and-first (list_all is_good_outcome (report_of a.walked).outcomes.items) (is_empty (report_of a.walked).diagnostics.items) good);
      valued = λ told. each_valued ms is.plan (report_of a.walked) (plan_ranked ms texts lineage is.plan is.planned) told good;
    }
