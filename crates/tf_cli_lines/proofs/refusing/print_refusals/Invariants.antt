-- the lines of the refusals passed are printed
use Rattle.std.proofs.Common.{take}
use Rattle.std.specs.List.{flat_map}
use Rattle.std.specs.Io.KnownBytes.{Appends}
use Rattle.tf_config_refusal.specs.Refusal.{refusal_of}
use Rattle.tf_cli_lines.specs.Lines.{refusal_line}
use Rattle.tf_cli_lines.proofs.refusing.print_refusals.Given as goal

abbrev pub invariant-loop-refusal : goal.invariant-loop-refusal
invariant-loop-refusal g l = Appends (g.E.Write.contents l.fn.err) (g.E.Write.contents l.err) (flat_map (λ r. refusal_line (refusal_of r)) (take l.refusal-index l.refusals))
