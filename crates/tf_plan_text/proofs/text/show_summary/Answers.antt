use Rattle.std.proofs.Common.{◌∙◌, sym}
use Rattle.tf_plan_data.specs.Action.{ActionView, action_of}
use Rattle.tf_plan_text.proofs.Counting.{count-mapped}
use Rattle.tf_plan_text.specs.Text.{adds, changes, destroys}
use Rattle.tf_plan_text.proofs.text.show_summary.Goals as goal

pub returns : goal.returns
returns c =
    let actions = c.args.actions.now in
    let add = c.counts-add.ensures.add ∙ sym (count-mapped (λ (a : ActionView). adds a.step) action_of actions) in
    let change = c.counts-add.ensures.change ∙ sym (count-mapped (λ (a : ActionView). changes a.step) action_of actions) in
    let destroy = c.counts-add.ensures.destroy ∙ sym (count-mapped (λ (a : ActionView). destroys a.step) action_of actions) in
    rw (← add, ← change, ← destroy) c.summarize.ensures
