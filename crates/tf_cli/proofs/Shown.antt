-- The text that is shown of a plan.
use Rattle.std.proofs.Common.{◌≡◌, ◌∙◌, ℕ, Bool, false, List, Result, Ok, Err, String, Global, IfOk, map, ap, ap₂, slice_index_or, string_bytes}
use Rattle.tf_plan_data.specs.Action.{action_of}
use Rattle.tf_plan_data.specs.declared.action.Action.{Action}
use Rattle.tf_plan_data.specs.declared.plan.Plan.{Plan}
use Rattle.tf_plan_data.specs.Plan.{PlanView}
use Rattle.tf_plan_text.specs.Text.{plan_text}
use Rattle.tf_cli_inputs.specs.Texts.{Texts}
use Rattle.tf_plan_planner.specs.declared.refused.Refused.{Refused}
use Rattle.tf_provider_protocol.specs.Meaning.{Meaning}
use Rattle.tf_cli.specs.Applies.{IsPlanOf, IsPlanText, text_in}

-- where that is the text of the plan of texts, it shows them
pub plan_shown : (ms : List Meaning) (texts : Texts) (lineage : List ℕ) (plan : PlanView) → IsPlanOf ms texts lineage plan
    → (answer : Result (String Global) Refused) → IfOk answer (λ text. string_bytes text ≡ text_in plan) → IfOk answer (λ text. IsPlanText ms texts (string_bytes text))
plan_shown ms texts lineage plan planned (Ok text) is = record { lineage = lineage; plan = plan; planned = planned; shown = is }
plan_shown ms texts lineage plan planned (Err refused) is = tt

-- the text of a plan, which is seen as another that is the same
pub text_of_plan : (p q : Plan) (text : List ℕ) (actions : List Action) (late : List Bool) → text ≡ plan_text (λ n. slice_index_or late n false) (map action_of actions)
    → actions ≡ p.actions.items → late ≡ p.late.items → p ≡ q → text ≡ plan_text (λ n. slice_index_or q.late.items n false) (map action_of q.actions.items)
text_of_plan p q text actions late is same-actions same-late same =
    is
    ∙ (ap₂ (λ (xs : List Action) (ls : List Bool). plan_text (λ n. slice_index_or ls n false) (map action_of xs)) same-actions same-late
    ∙ ap (λ (r : Plan). plan_text (λ n. slice_index_or r.late.items n false) (map action_of r.actions.items)) same)
