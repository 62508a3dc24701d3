-- One more source is read.
use Rattle.std.proofs.Common.{◌≡◌, ◌+◌, ◌++◌, [], ◌∷◌, take, rules, sym, subst}
use Rattle.std.specs.Fn.{FnReturnsAt}
use Rattle.tf_cli_files.specs.Sources.{EachRead}
use Rattle.tf_cli_files.proofs.EachRead.{each_read-next}
use Rattle.tf_cli_files.proofs.sources.read_sources.Goals as goal

pub loop-name-preserved : goal.loop-name-preserved
loop-name-preserved g c =
    let reads = FnReturnsAt g.F.Fn c.args.read.now in
    let sources = c.loop-name.sources.items in
    let added : c.add.new.sources.items ≡ sources ++ c.in_ok-source.source ∷ [] = search rules in
    subst (λ xs. EachRead reads (take (c.loop-name.name-index + 1) c.args.names.now) xs) (sym added)
    (each_read-next reads c.args.names.now c.loop-name.name-index sources _ c.in_ok-source.source c.loop-name-test.true c.name-item.is c.loop-name.invariant c.in_ok-source.ensures.read)
