use Rattle.std.proofs.Common.{◌∙◌, sym, ap, subst}
use Rattle.tf_config_address.specs.ResourceAddr.{addr_of}
use Rattle.tf_state_next.specs.Ends.{ApplyResultView, as_applied, record_input_of}
use Rattle.tf_state_next.specs.Saved.{left_by_destroy}
use Rattle.tf_walk_report.specs.ActionReport.{IsAdded}
use Rattle.tf_walk_report.specs.Change.{ChangeView, an_apply, change_by, saved_by}
use Rattle.tf_walk_buffers.specs.BuffersHead.{target_of}
use Rattle.tf_walk_report.proofs.reporting.add_change.Goals as goal

pub returns-in-Instance-clause-added : goal.returns-in-Instance-clause-added
returns-in-Instance-clause-added c schema r answer v f n =
    let addr = addr_of c.args.addr.now in
    subst (λ (change : ChangeView). IsAdded change c.args.events.now c.add_apply.new.events)
    (ap (λ (a : ApplyResultView). an_apply (record { addr = addr; given = record_input_of c.in-Instance.given; applied = a })) (ap as_applied (c.saved-saved.ensures schema r answer v f n))
    ∙ ap (λ t. change_by addr (target_of t) (as_applied (saved_by c.args.op schema r answer c.args.verdict)) (left_by_destroy schema answer c.args.verdict)) (sym c.in-Instance.is))
    c.add_apply.ensures
