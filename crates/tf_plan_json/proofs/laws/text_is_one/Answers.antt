use Rattle.std.proofs.Common.{sym, ap, ◌∙◌}
use Rattle.tf_plan_json.specs.Document.{plan_data}
use Rattle.tf_plan_outputs.proofs.One.{changes_one}
use Rattle.tf_value_json.specs.Text.{text_of}
use Rattle.tf_plan_json.proofs.laws.text_is_one.Goals as goal

pub returns : goal.returns
returns c = λ plan s t a b. a.prints ∙ ap (λ cs. text_of (plan_data plan cs)) (changes_one plan a.outputs b.outputs a.planned b.planned) ∙ sym b.prints
