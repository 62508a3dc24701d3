-- The text of a document is that of a plan.
use Rattle.std.proofs.Common.{◌≡◌, List, String, Global, Result, Ok, Err, IfOk, string_bytes, ap, ◌∙◌}
use Rattle.std.specs.declared.alloc.AllocError.{AllocError}
use Rattle.tf_plan_data.specs.Plan.{PlanView}
use Rattle.tf_plan_json.specs.Document.{IsJsonText, plan_data}
use Rattle.tf_plan_outputs.specs.Changes.{AreOutputChanges, OutputChangeView}
use Rattle.tf_value_json.specs.Text.{text_of}

pub printed : (plan same : PlanView) (outputs listed : List OutputChangeView) (r : Result (String Global) AllocError) → same ≡ plan → listed ≡ outputs → AreOutputChanges plan outputs
    → IfOk r (λ text. string_bytes text ≡ text_of (plan_data same listed)) → IfOk r (λ text. IsJsonText plan (string_bytes text))
printed plan same outputs listed (Ok text) is all planned prints =
    record { outputs = outputs; planned = planned; prints = prints ∙ ap (λ p. text_of (plan_data p listed)) is ∙ ap (λ os. text_of (plan_data plan os)) all }
printed plan same outputs listed (Err why) is all planned prints = prints
