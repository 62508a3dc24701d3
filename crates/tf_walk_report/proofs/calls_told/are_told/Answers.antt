use Rattle.std.proofs.Common.{◌≡◌, All, Some, subst}
use Rattle.std.proofs.lemmas.List.{take_all}
use Rattle.std.proofs.lemmas.List.Elements.{All-more}
use Rattle.tf_provider.specs.declared.journal.Entry.{Entry}
use Rattle.tf_walk_report.specs.Told.{verdict_told}
use Rattle.tf_walk_report.proofs.calls_told.are_told.Goals as goal

pub loop-entry-preserved : goal.loop-entry-preserved
loop-entry-preserved c =
    All-more (λ (e : Entry). verdict_told c.args.outcomes.now c.args.excused.now e.action ≡ Some e.verdict) c.args.entries.now c.loop-entry.entry-index _ c.loop-entry-test.true c.loop-entry.invariant (c.is_told-told.ensures.0 c.if-not-told.false)

pub returns-clause-told : goal.returns-clause-told
returns-clause-told c = λ _.
    subst (All (λ (e : Entry). verdict_told c.args.outcomes.now c.args.excused.now e.action ≡ Some e.verdict)) (take_all c.loop-entry.entry-index c.args.entries.now c.loop-entry-test.false) c.loop-entry.invariant
