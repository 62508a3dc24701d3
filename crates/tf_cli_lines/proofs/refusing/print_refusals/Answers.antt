use Rattle.std.proofs.Common.{take, arith}
use Rattle.std.proofs.lemmas.List.{take_all}
use Rattle.std.specs.List.{flat_map}
use Rattle.tf_cli_lines.specs.Lines.{refusal_line}
use Rattle.tf_config_refusal.specs.Refusal.{refusal_of}
use Rattle.tf_cli_lines.proofs.RefusalLines.{start_whole}
use Rattle.tf_cli_lines.proofs.Writes.{start_at}
use Rattle.tf_cli_lines.proofs.refusing.print_refusals.Goals as goal

pub returns-in_err-print_refusal-clause-part : goal.returns-in_err-print_refusal-clause-part
returns-in_err-print_refusal-clause-part g c =
    start_at (λ r. refusal_line (refusal_of r)) c.args.refusals.now c.loop-refusal.refusal-index _ _ _ _ c.refusal-item.is c.loop-refusal-test.true c.loop-refusal.invariant c.print_refusal.ensures.part

pub returns-clause-part : goal.returns-clause-part
returns-clause-part g c =
    rw (take_all c.loop-refusal.refusal-index c.args.refusals.now (omega (arith, c.loop-refusal-test.false))) at (start_whole _ _ (flat_map (λ r. refusal_line (refusal_of r)) (take c.loop-refusal.refusal-index c.args.refusals.now)) c.loop-refusal.invariant)
