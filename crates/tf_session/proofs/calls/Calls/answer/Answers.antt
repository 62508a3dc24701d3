-- one call more has ended
use Rattle.std.proofs.Common.{◌∙◌, ◌++◌, ◌∷◌, [], ap, refl}
use Rattle.tf_provider_log.specs.declared.entry.LogEntry.TheVariants.{Answered}
use Rattle.tf_session.proofs.Kept.{kept_answered}
use Rattle.tf_session.proofs.Only.{only_answered}
use Rattle.tf_session.proofs.calls.Calls.answer.Goals as goal

pub returns-clause-kept : goal.returns-clause-kept
returns-clause-kept c = kept_answered _ _ (Answered c.args.request c.args.reply) refl (c.push_reserved.ensures.items ∙ ap (λ es. es ++ Answered c.args.request c.args.reply ∷ []) c.in_ok-reserve.ensures.items)

pub returns-clause-only : goal.returns-clause-only
returns-clause-only c = only_answered _ _ c.args.request c.args.reply refl refl (c.push_reserved.ensures.items ∙ ap (λ es. es ++ Answered c.args.request c.args.reply ∷ []) c.in_ok-reserve.ensures.items)
