use Rattle.std.proofs.Common.{◌++◌, ℕ, List, ap, codes, string_bytes}
use Rattle.tf_cli_lines.proofs.RefusalLines.{part_as}
use Rattle.tf_cli_lines.proofs.Writes.{start_at}
use Rattle.tf_cli_lines.proofs.refusing.print_others.Goals as goal

pub returns-in_err-print_behind-clause-part : goal.returns-in_err-print_behind-clause-part
returns-in_err-print_behind-clause-part g c =
    start_at (λ name. codes ", " ++ string_bytes name) c.args.names.now c.loop-name.name-index _ _ _ _ c.name-item.is c.loop-name-test.true c.loop-name.invariant
    (part_as _ _ (codes ", " ++ c.as_str.result.now) (codes ", " ++ string_bytes c.name-item.result) (ap (λ (t : List ℕ). codes ", " ++ t) c.as_str.ensures.value) c.print_behind.ensures.part)
