-- What the programs do with what they were given.
use Rattle.std.proofs.Common.{◌≡◌, ◌∙◌, ◌++◌, ℕ, List, [], Option, Some, None, Result, Ok, Err, Bool, true, false, inl, inr, refl, sym, ap, subst, option_map, string_bytes}
use Rattle.std.specs.Prelude.{IfOk, IfErr, MatchResult, unwrap_or, if◌then◌else◌, is_err, not, ◌&&◌}
use Rattle.std.proofs.lemmas.List.{append-nil}
use Rattle.std.specs.Result.{result_ok}
use Rattle.std.specs.declared.string.String.{String}
use Rattle.tf_cli_inputs.specs.Texts.{Texts, the_texts}
use Rattle.tf_plan_planner.specs.Refused.{Tells}
use Rattle.tf_plan_planner.specs.declared.refused.Refused.{Refused}
use Rattle.tf_plan_planner.specs.declared.refused.Refused.TheVariants.{NoMemory, These}
use Rattle.tf_provider_protocol.specs.Meaning.{Meaning}
use Rattle.tf_walk.specs.Workers.{are_workers}
use Rattle.tf_cli.specs.Applies.{IsCarriedOut, IsPlanOf}
use Rattle.tf_cli_text.specs.Shown.{to_write}
use Rattle.tf_cli_files.specs.Kept.{EndsKept}
use Rattle.tf_cli.specs.Refusals.{AreRefusals, IsNumberRefused}
use Rattle.tf_cli_lines.proofs.Writes.{both_part}
use Rattle.tf_cli_lines.specs.Saved.{AppendsStart}
use Rattle.tf_cli_text.specs.Shown.{all_good, errors_of, is_torn, refused_errors, report_summary, status_of, summary_of}
use Rattle.tf_plan_data.specs.Plan.{PlanView, plan_of}
use Rattle.tf_plan_data.specs.declared.plan.Plan.{Plan}
use Rattle.tf_walk_report.specs.Report.{report_of}
use Rattle.tf_cli_program.specs.Work.{EndsApply, EndsWith, IsAnswer, IsPlanAtMost, IsPrinted, IsShown, IsShownPlan, texts_of}
use Rattle.tf_cli_text.specs.declared.applied.Applied.{Applied}
use Rattle.tf_cli_files.specs.declared.given.ProgramInput.{ProgramInput}

same_texts : (config config_given : List ℕ) (vars vars_given state state_given : Option (List ℕ)) → config ≡ config_given → vars ≡ vars_given → state ≡ state_given
    → the_texts config vars state ≡ the_texts config_given vars_given state_given
same_texts config config_given vars vars_given state state_given e f g = rw (e, f, g) refl

module _ (ms : List Meaning) (given : ProgramInput) (config : List ℕ) (vars state : Option (List ℕ))
    (same_config : config ≡ given.config.items)
    (same_vars : vars ≡ option_map (λ bytes. bytes.items) given.vars)
    (same_state : state ≡ option_map (λ bytes. bytes.items) given.state) where
  the_same : the_texts config vars state ≡ texts_of given
  the_same = same_texts config given.config.items vars (option_map (λ bytes. bytes.items) given.vars) state (option_map (λ bytes. bytes.items) given.state) same_config same_vars same_state

  -- what is planned and what is refused of these texts is that of what was given
  pub is_planned : (lineage : List ℕ) → lineage ≡ string_bytes given.options.lineage → (answer : Result Plan Refused) → IfOk answer (λ p. IsPlanOf ms (the_texts config vars state) lineage (plan_of p))
      → IfOk answer (λ p. IsPlanOf ms (texts_of given) (string_bytes given.options.lineage) (plan_of p))
  is_planned lineage named (Ok p) planned =
      subst (λ (l : List ℕ). IsPlanOf ms (texts_of given) l (plan_of p)) named (subst (λ (t : Texts). IsPlanOf ms t lineage (plan_of p)) the_same planned)
  is_planned lineage named (Err refused) planned = tt

  pub are_refused : {A : Type 0} (answer : Result A Refused) → IfErr answer (Tells (AreRefusals ms (the_texts config vars state))) → IfErr answer (Tells (AreRefusals ms (texts_of given)))
  are_refused (Ok a) refused = refused
  are_refused (Err why) refused = subst (λ (t : Texts). Tells (AreRefusals ms t) why) the_same refused

-- ---- an apply

module _ (ms : List Meaning) (given : ProgramInput) where
  -- what is refused of the texts is an answer of an apply
  pub refused_answer : (refused : Refused) → Tells (AreRefusals ms (texts_of given)) refused → IsAnswer ms given (Err refused)
  refused_answer NoMemory tells = tt
  refused_answer (These refusals) tells = inl tells

  -- the result of carrying out the plan of the texts is an answer of an apply
  pub is_answer : (plan : PlanView) → IsPlanOf ms (texts_of given) (string_bytes given.options.lineage) plan → (answer : Result Applied Refused)
      → IfOk answer (IsCarriedOut ms plan) → IfOk answer (λ _. are_workers given.options.parallelism ≡ true)
      → IfErr answer (Tells (IsNumberRefused given.options.parallelism)) → IsAnswer ms given answer
  is_answer plan planned (Ok a) carried_out workers refused = (record { plan = plan; planned = planned; carried_out = carried_out }, workers)
  is_answer plan planned (Err NoMemory) carried_out workers refused = tt
  is_answer plan planned (Err (These refusals)) carried_out workers refused = inr (record { plan = plan; planned = planned; wrong = refused })

  -- a refusal that is printed before the plan ends an apply
  pub refused_ends : (refused : Refused) (out err err_after : Option (List ℕ)) → AppendsStart err err_after (refused_errors refused) → EndsApply ms given (Err refused) 1 out out err err_after
  refused_ends refused out err err_after errors = (refl, (inl refl, errors))

  -- what is printed of a text that shows the plan is at most the plan
  pub at_most : {F : Type 0} (printed : Option (Result (Unit {0}) F)) (text : List ℕ) (out now : Option (List ℕ)) → IsShownPlan ms given text → IsPrinted printed text out now → IsPlanAtMost ms given out now
  at_most None text out now shows same = inl same
  at_most (Some printed) text out now shows is = inr (text, shows, is.1)

  -- what is printed of an answer after the text that shows the plan
  pub shows_rest : {F : Type 0} (printed : Result (Unit {0}) F) (answer : Result Applied Refused) (now out_after err err_after : Option (List ℕ))
      → MatchResult printed (λ _. AppendsStart now out_after (summary_of answer)) (λ _. out_after ≡ now)
      → AppendsStart err err_after (errors_of answer)
      → (out : Option (List ℕ)) (text : List ℕ) → IsShownPlan ms given text → IsPrinted (Some printed) text out now → IsShown ms given answer out out_after err err_after
  shows_rest printed (Ok a) now out_after err err_after rest errors out text shows is =
      ((text, shows, both_part printed out now out_after text (report_summary (report_of a.walked)) is.0 is.1 rest), errors)
  shows_rest printed (Err refused) now out_after err err_after rest errors out text shows is =
      (inr (text, shows, subst (AppendsStart out out_after) (append-nil text) (both_part printed out now out_after text [] is.0 is.1 rest)), errors)

-- the text that shows a plan is the one with old values if that is asked for
pub shown_is : (b : Bool) (diff : Option (List ℕ)) (text with_old plain : List ℕ) → diff ≡ (if b then Some with_old else None) → text ≡ plain → unwrap_or diff text ≡ (if b then with_old else plain)
shown_is true diff text with_old plain e f = rw e refl
shown_is false diff text with_old plain e f = rw e f

module _ (ms : List Meaning) (given : ProgramInput) (result : ℕ) (out out_after err err_after : Option (List ℕ)) where
  pub nothing_to_write : {Z : Type 0} (answer : Result Applied Refused) (text : Option (String Z)) → option_map string_bytes text ≡ to_write answer → text ≡ None
      → result ≡ status_of answer → IsShown ms given answer out out_after err err_after → EndsApply ms given answer result out out_after err err_after
  nothing_to_write {Z} answer text wanted is status shown =
      subst (λ (w : Option (List ℕ)). EndsWith ms given w answer result out out_after err err_after) (sym (ap (λ (t : Option (String Z)). option_map string_bytes t) is) ∙ wanted) (status, shown)

  pub then_kept : {Z : Type 0} (answer : Result Applied Refused) (text : Option (String Z)) (it : String Z) (out_shown err_shown : Option (List ℕ)) → option_map string_bytes text ≡ to_write answer → text ≡ Some it
      → IsShown ms given answer out out_shown err err_shown → EndsKept (status_of answer) result (string_bytes it) out_shown out_after err_shown err_after
      → EndsApply ms given answer result out out_after err err_after
  then_kept {Z} answer text it out_shown err_shown wanted is shown kept =
      subst (λ (w : Option (List ℕ)). EndsWith ms given w answer result out out_after err err_after) (sym (ap (λ (t : Option (String Z)). option_map string_bytes t) is) ∙ wanted) (out_shown, err_shown, shown, kept)

-- If there is nothing to write, and the status isn't that of a state that isn't written, the state hasn't changed.
unchanged_parts : {S F : Type 0} (text : S → List ℕ) (changed : Bool) (state : Result S F) (rest : ℕ) → (if changed then option_map text (result_ok state) else None) ≡ None
    → ((if changed && is_err state then 3 else rest) ≡ 3 → ⊥) → changed ≡ false
unchanged_parts text false state rest none written = refl
unchanged_parts text true (Ok s) rest none written = absurd (cc)
unchanged_parts text true (Err f) rest none written = absurd (written refl)

pub unchanged : (answer : Result Applied Refused) → to_write answer ≡ None → (status_of answer ≡ 3 → ⊥) → IfOk answer (λ a. a.changed ≡ false)
unchanged (Ok a) none written = unchanged_parts string_bytes a.changed a.state (if all_good (report_of a.walked) && not (is_torn a.walked) then 0 else 2) none written
unchanged (Err refused) none written = tt
