use Rattle.std.proofs.Common.{not, ap, ◌∙◌, string_bytes}
use Rattle.std.specs.Prelude.{◌==◌, ℕ}
use Rattle.tf_plan_data.specs.Plan.{plan_of}
use Rattle.tf_plan_data.specs.declared.plan.Plan.{Plan}
use Rattle.tf_walk_report.specs.Report.{report_of}
use Rattle.tf_state_data.specs.State.{state_of}
use Rattle.tf_cli.proofs.Carried.{is_carried_out}
use Rattle.tf_cli.proofs.applying.carry_out_one.Goals as goal

pub returns-in-Ok-clause-carried_out : goal.returns-in-Ok-clause-carried_out
returns-in-Ok-clause-carried_out g c =
    is_carried_out _ (plan_of c.args.planned.now) c.in-Ok.walked _ c.requires.starts (ap string_bytes c.answer_of.ensures.plan ∙ c.requires.shown)
    c.in-Ok.ensures.walked c.answer_of.ensures.walked c.answer_of.ensures.text
    (c.answer_of.ensures.changed
    ∙ ap (λ (n : ℕ). not ((state_of (report_of c.in-Ok.walked).state).serial == n)) (c.serial.ensures ∙ ap (λ (p : Plan). (state_of p.prior).serial) c.planned.view_is))
