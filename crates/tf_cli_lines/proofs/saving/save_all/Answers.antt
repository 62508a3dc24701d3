use Rattle.tf_cli_lines.proofs.Writes.{start_within}
use Rattle.tf_cli_lines.proofs.saving.save_all.Goals as goal

pub returns-in_err-save-clause-part : goal.returns-in_err-save-clause-part
returns-in_err-save-clause-part g c =
    start_within (λ t. t.now) c.args.texts.now c.loop-text.text-index _ _ _ _ c.loop-text-test.true c.loop-text.invariant c.save.ensures.part
