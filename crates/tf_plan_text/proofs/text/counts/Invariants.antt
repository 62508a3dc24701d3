use Rattle.std.proofs.Common.{◌≡◌, take}
use Rattle.std.specs.List.{count_by}
use Rattle.tf_plan_data.specs.Action.{step_of}
use Rattle.tf_plan_data.specs.declared.action.Action.{Action}
use Rattle.tf_plan_text.specs.Text.{adds, changes, destroys}
use Rattle.tf_plan_text.proofs.text.counts.Given as goal

abbrev pub invariant-loop-action : goal.invariant-loop-action
invariant-loop-action l =
    let seen = take l.action-index l.actions in
    record {
      add : l.add ≡ count_by (λ (a : Action). adds (step_of a.step)) seen;
      change : l.change ≡ count_by (λ (a : Action). changes (step_of a.step)) seen;
      destroy : l.destroy ≡ count_by (λ (a : Action). destroys (step_of a.step)) seen;
    }
