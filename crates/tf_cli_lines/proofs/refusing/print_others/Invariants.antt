-- the names passed are printed, each behind a comma and a space
use Rattle.std.proofs.Common.{take, string_bytes, codes, ◌++◌}
use Rattle.std.specs.List.{flat_map}
use Rattle.std.specs.Io.KnownBytes.{Appends}
use Rattle.tf_cli_lines.proofs.refusing.print_others.Given as goal

abbrev pub invariant-loop-name : goal.invariant-loop-name
invariant-loop-name g l = Appends (g.E.Write.contents l.fn.err) (g.E.Write.contents l.err) (flat_map (λ name. codes ", " ++ string_bytes name) (take l.name-index l.names))
