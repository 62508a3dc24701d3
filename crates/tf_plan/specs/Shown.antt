-- The text of a plan.
use Rattle.std.specs.Prelude.{ℕ, List}
use Rattle.tf_plan_data.specs.Plan.{PlanView}
use Rattle.tf_plan_text.specs.Text.{plan_text}

-- the text of a plan's actions
abbrev pub text_in : PlanView → List ℕ
text_in plan = plan_text plan.late plan.actions
