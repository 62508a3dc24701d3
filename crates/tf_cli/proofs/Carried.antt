-- The answer for a plan that was carried out.
use Rattle.std.proofs.Common.{◌≡◌, ◌∙◌, ℕ, Bool, true, false, not, if◌then◌else◌, List, Result, Ok, Err, refl, sym, ap, subst, string_bytes, arith}
use Rattle.std.specs.Prelude.{◌==◌, ◌+◌, ◌↔◌, IfOk}
use Rattle.tf_state_next.specs.StateAfter.{is_same, next_serial}
use Rattle.tf_plan_data.specs.Plan.{PlanView}
use Rattle.tf_provider_protocol.specs.Meaning.{Meaning}
use Rattle.tf_walk_report.specs.Report.{IsReported, IsWalked, report_of}
use Rattle.tf_walk_report.specs.declared.report.Walked.{Walked}
use Rattle.tf_walk_report.specs.declared.report.Walked.TheVariants.{Whole, Torn}
use Rattle.tf_state_data.specs.Equality.{state_Decides}
use Rattle.tf_state_data.specs.State.{StateView, state_of}
use Rattle.tf_state.specs.Text.{state_text}
use Rattle.tf_state.specs.Valid.{IsValid}
use Rattle.tf_cli.specs.Applies.{IsApplied, IsCarriedOut, IsPlanOf, MayStart, text_in}
use Rattle.tf_cli_inputs.specs.Texts.{Texts}
use Rattle.tf_plan_planner.specs.declared.refused.Refused.{Refused}
use Rattle.tf_cli_text.specs.declared.applied.Applied.{Applied}

same-serial : (n m : ℕ) → not (n == m) ≡ false → n ≡ m
same-serial n m e = grind (arith, e)

not-other : (n m : ℕ) → n ≡ m → not (n == m) ≡ false
not-other n m e = grind (arith, e)

-- a state with the prior serial is the prior state
prior-again : (prior after : StateView) (b : Bool) → is_same prior after ≡ b → after.serial ≡ (if b then prior.serial else prior.serial + 1) → after.serial ≡ prior.serial → after ≡ prior
prior-again prior after true same is h =
    ◌∙◌ {b = record after { serial = prior.serial }} (ap (λ (n : ℕ). record after { serial = n }) h) ((state_Decides (record after { serial = prior.serial }) prior).0 same)
prior-again prior after false same is h = absurd (omega (arith, is, h))

-- the state after is the prior one exactly if its serial is
changed-exactly : (prior after : StateView) (changed : Bool) → after.serial ≡ next_serial prior after → changed ≡ not (after.serial == prior.serial) → (changed ≡ false) ↔ (after ≡ prior)
changed-exactly prior after changed serial is = (
  (λ e. prior-again prior after (is_same prior after) refl serial (same-serial after.serial prior.serial (sym is ∙ e))),
  (λ e. is ∙ not-other after.serial prior.serial (ap (λ (s : StateView). s.serial) e)),
)

-- what the report of a walk says
pub reported_in : (ms : List Meaning) (plan : PlanView) (w : Walked) → IsWalked ms plan w → IsReported ms plan (report_of w)
reported_in ms plan (Torn report) walked = absurd walked
reported_in ms plan (Whole report) walked = walked.reported

pub is_carried_out : (ms : List Meaning) (plan : PlanView) (walked : Walked) (a : Applied)
    → MayStart ms plan
    → string_bytes a.plan ≡ text_in plan
    → IsWalked ms plan walked
    → a.walked ≡ walked
    → IfOk a.state (λ text. string_bytes text ≡ state_text (state_of (report_of walked).state))
    → a.changed ≡ not ((state_of (report_of walked).state).serial == plan.prior.serial)
    → IsCarriedOut ms plan a
is_carried_out ms plan walked a starts shown was_walked same text changed =
    let told = (reported_in ms plan walked was_walked).is_report.told in
    let exactly = changed-exactly plan.prior (state_of (report_of walked).state) a.changed told.state.after.serial changed in
    record {
      shown = shown;
      walked = subst (λ (w : Walked). IsWalked ms plan w) (sym same) was_walked;
      valid = subst (λ (w : Walked). IsValid (state_of (report_of w).state)) (sym same) (told.valid starts.2 starts.1);
      text = subst (λ (w : Walked). IfOk a.state (λ text. string_bytes text ≡ state_text (state_of (report_of w).state))) (sym same) text;
      changed = subst (λ (w : Walked). (a.changed ≡ false) ↔ (state_of (report_of w).state ≡ plan.prior)) (sym same) exactly;
    }

-- if the plan is that of texts, the answer is that of their apply
pub applied_then : (ms : List Meaning) (texts : Texts) (lineage : List ℕ) (plan : PlanView) → IsPlanOf ms texts lineage plan
    → (answer : Result Applied Refused) → IfOk answer (IsCarriedOut ms plan) → IfOk answer (IsApplied ms texts lineage)
applied_then ms texts lineage plan planned (Ok a) out = record { plan = plan; planned = planned; carried_out = out }
applied_then ms texts lineage plan planned (Err refused) out = tt
