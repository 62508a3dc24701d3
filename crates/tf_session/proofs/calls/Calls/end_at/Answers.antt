-- the request at the place has ended
use Rattle.std.proofs.Common.{◌∙◌, ◌++◌, ◌∷◌, [], ap, refl}
use Rattle.tf_session.proofs.Kept.{kept_ended}
use Rattle.tf_session.proofs.Only.{only_ended}
use Rattle.tf_session.proofs.calls.Calls.end_at.Goals as goal

pub returns-clause-kept : goal.returns-clause-kept
returns-clause-kept c =
    kept_ended _ _ c.args.place c.take-flight.result c.args.logged.reply c.requires.within c.take-flight.ensures.taken c.take-flight.ensures.others (c.push_reserved.ensures.items ∙ ap (λ e. c.args.self.now.entries.items ++ e ∷ []) c.into_entry.ensures)

pub returns-clause-only : goal.returns-clause-only
returns-clause-only c =
    only_ended _ _ c.args.place c.take-flight.result c.args.logged.reply c.requires.within c.take-flight.ensures.taken refl c.take-flight.ensures.others (c.push_reserved.ensures.items ∙ ap (λ e. c.args.self.now.entries.items ++ e ∷ []) c.into_entry.ensures)

pub returns-clause-noted : goal.returns-clause-noted
returns-clause-noted c = (c.take-flight.result, c.take-flight.ensures.taken, c.push_reserved.ensures.items ∙ ap (λ e. c.args.self.now.entries.items ++ e ∷ []) c.into_entry.ensures)
