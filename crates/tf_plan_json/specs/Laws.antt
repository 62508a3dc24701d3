-- A law on the document.
use Rattle.std.specs.Prelude.{◌≡◌, ℕ, List}
use Rattle.tf_plan_data.specs.Plan.{PlanView}
use Rattle.tf_plan_json.specs.Document.{IsJsonText}

-- a plan has at most one text of its document
abbrev pub TextIsOne : Type 0
TextIsOne = (plan : PlanView) (s t : List ℕ) → IsJsonText plan s → IsJsonText plan t → s ≡ t
