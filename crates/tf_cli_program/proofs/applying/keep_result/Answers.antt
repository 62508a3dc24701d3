-- The answer is printed, and then its state is kept, if there is one to write.
use Rattle.std.proofs.Common.{◌∙◌, ap, inl, inr, refl, sym}
use Rattle.std.specs.Prelude.{Some}
use Rattle.tf_cli_program.proofs.Worked.{nothing_to_write, shows_rest, then_kept, unchanged}
use Rattle.tf_cli_program.proofs.applying.keep_result.Goals as goal

pub returns-in-Ok-clause-settled : goal.returns-in-Ok-clause-settled
returns-in-Ok-clause-settled g c = sym c.in-Some.ensures ∙ ap Some (sym c.in-Ok.ensures.kept.0)

pub returns-in-Ok-clause-ends : goal.returns-in-Ok-clause-ends
returns-in-Ok-clause-ends g c = λ ms given before shown shows is. then_kept ms given _ _ _ _ _ c.args.answer c.state_to_write.result c.in-Some.text _ _ c.state_to_write.ensures c.in-Some.is
    (shows_rest ms given c.args.printed c.args.answer _ _ _ _ c.show_rest-status.ensures.output c.show_rest-status.ensures.errors before shown shows is)
    (inl (c.show_rest-status.ensures.status, c.in-Ok.ensures.kept.1, c.in-Ok.ensures.kept.2))

pub returns-in-Err-clause-ends : goal.returns-in-Err-clause-ends
returns-in-Err-clause-ends g c = λ ms given before shown shows is. then_kept ms given _ _ _ _ _ c.args.answer c.state_to_write.result c.in-Some.text _ _ c.state_to_write.ensures c.in-Some.is
    (shows_rest ms given c.args.printed c.args.answer _ _ _ _ c.show_rest-status.ensures.output c.show_rest-status.ensures.errors before shown shows is)
    (inr (refl, c.in-Err.ensures.not_kept.0, c.in-Err.ensures.not_kept.1))

pub returns-in-None-clause-ends : goal.returns-in-None-clause-ends
returns-in-None-clause-ends g c = λ ms given before shown shows is. nothing_to_write ms given _ _ _ _ _ c.args.answer c.state_to_write.result c.state_to_write.ensures c.in-None.is c.show_rest-status.ensures.status
    (shows_rest ms given c.args.printed c.args.answer _ _ _ _ c.show_rest-status.ensures.output c.show_rest-status.ensures.errors before shown shows is)

pub returns-in-None-2-clause-settled : goal.returns-in-None-2-clause-settled
returns-in-None-2-clause-settled g c = unchanged c.args.answer (sym c.in-None-2.ensures) (λ e. c.if-status-eq-EXIT_STATE_NOT_WRITTEN.false (c.show_rest-status.ensures.status ∙ e))

pub returns-in-None-2-clause-ends : goal.returns-in-None-2-clause-ends
returns-in-None-2-clause-ends g c = λ ms given before shown shows is. nothing_to_write ms given _ _ _ _ _ c.args.answer c.state_to_write.result c.state_to_write.ensures c.in-None-2.is c.show_rest-status.ensures.status
    (shows_rest ms given c.args.printed c.args.answer _ _ _ _ c.show_rest-status.ensures.output c.show_rest-status.ensures.errors before shown shows is)
