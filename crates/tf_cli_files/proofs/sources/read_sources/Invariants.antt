-- the sources so far are read
use Rattle.std.proofs.Common.{take}
use Rattle.std.specs.Fn.{FnReturnsAt}
use Rattle.tf_cli_files.specs.Sources.{EachRead}
use Rattle.tf_cli_files.proofs.sources.read_sources.Given as goal

abbrev pub invariant-loop-name : goal.invariant-loop-name
invariant-loop-name g l = EachRead (FnReturnsAt g.F.Fn l.read) (take l.name-index l.names) l.sources.items
