-- What an apply returns if nothing is refused.
use Rattle.std.specs.Prelude.{◌≡◌, ◌↔◌, ℕ, false, List, IfOk, string_bytes}
use Rattle.tf_cli_text.specs.declared.applied.Applied.{Applied}
use Rattle.tf_config_data.specs.Config.{ConfigView}
use Rattle.tf_cli_inputs.specs.Texts.{Texts, ReadAs}
use Rattle.tf_plan_planner.specs.Plan.{IsPlan}
use Rattle.tf_plan_data.specs.Plan.{PlanView}
use Rattle.tf_plan_text.specs.Text.{plan_text}
use Rattle.tf_provider_protocol.specs.Meaning.{Meaning}
use Rattle.tf_walk_action.specs.Words.{AreServed}
use Rattle.tf_walk_report.specs.Report.{IsWalked, report_of}
use Rattle.tf_walk_report.specs.Savable.{HasNames}
use Rattle.tf_state_data.specs.State.{StateView, state_of}
use Rattle.tf_state.specs.Text.{state_text}
use Rattle.tf_state.specs.Valid.{IsValid}
use Rattle.tf_value_data.specs.Tree.{Entries}

-- The texts read as a configuration, the values of its variables and a prior state, and this is their plan.
pub record IsPlanOf (ms : List Meaning) (texts : Texts) (lineage : List ℕ) (plan : PlanView) : Type 0 where
  pub config : ConfigView
  pub values : Entries
  pub prior : StateView
  pub stand : ReadAs texts lineage config values prior
  pub planned : IsPlan ms config values prior plan

-- the text that shows a plan
abbrev pub text_in : PlanView → List ℕ
text_in plan = plan_text plan.late plan.actions

-- the text that shows the plan of such texts
pub record IsPlanText (ms : List Meaning) (texts : Texts) (text : List ℕ) : Type 0 where
  pub lineage : List ℕ
  pub plan : PlanView
  pub planned : IsPlanOf ms texts lineage plan
  pub shown : text ≡ text_in plan

-- A plan may be carried out if each action has a provider, the prior state is valid, and the addresses of blocks consist of names.
abbrev pub MayStart : List Meaning → PlanView → Type 0
MayStart ms plan = AreServed ms plan.actions × IsValid plan.prior × HasNames plan

-- the state after an apply
abbrev pub state_in : Applied → StateView
state_in a = state_of (report_of a.walked).state

-- The answer for a plan: its text; the report of a walk that carries it out, with its journal; the text of the state after, if
-- there was memory for it; and whether that state isn't the prior one. The state after is valid, so its text reads back as it.
pub record IsCarriedOut (ms : List Meaning) (plan : PlanView) (a : Applied) : Type 0 where
  pub shown : string_bytes a.plan ≡ text_in plan
  pub walked : IsWalked ms plan a.walked
  pub valid : IsValid (state_in a)
  pub text : IfOk a.state (λ text. string_bytes text ≡ state_text (state_in a))
  pub changed : (a.changed ≡ false) ↔ (state_in a ≡ plan.prior)

-- The answer of an apply: its texts have a plan, and this is the result of carrying it out.
pub record IsApplied (ms : List Meaning) (texts : Texts) (lineage : List ℕ) (a : Applied) : Type 0 where
  pub plan : PlanView
  pub planned : IsPlanOf ms texts lineage plan
  pub carried_out : IsCarriedOut ms plan a
