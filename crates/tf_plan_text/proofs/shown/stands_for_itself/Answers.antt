-- A text of which each byte stands for itself is written as it is.
use Rattle.std.proofs.Common.{◌∙◌, ap, sym}
use Rattle.json.specs.Print.{escape}
use Rattle.std.specs.List.{list_all}
use Rattle.tf_plan_text.specs.Plain.{is_plain}
use Rattle.tf_plan_text.proofs.Plain.{escapes_nothing}
use Rattle.tf_plan_text.proofs.shown.stands_for_itself.Goals as goal

pub returns : goal.returns
returns c = λ plain. escapes_nothing c.args.content.now (ap (list_all is_plain) (sym c.as_bytes.ensures.value) ∙ sym c.all_plain.ensures ∙ plain)
