use Rattle.std.proofs.Common.{◌≡◌, arith}
use Rattle.tf_config_data.specs.Names.{directly_before}
use Rattle.tf_config_names.proofs.Edging.{edges-more, edges-all}
use Rattle.tf_config_names.specs.Table.{names_in}
use Rattle.tf_config_names.proofs.dependence.edges_of.Goals as goal

pub loop-place-preserved : goal.loop-place-preserved
loop-place-preserved c =
    let l = c.loop-place in
    let names = names_in c.args.names.now in
    let before : c.as_slice.result.now ≡ directly_before names l.place = rw c.as_slice.ensures.value c.in_ok-before.ensures in
    edges-more names l.place l.edges.items c.add_edges.new.edges.items c.as_slice.result.now (omega arith) before c.in_ok-add_edges.ensures l.invariant

pub returns-clause-before : goal.returns-clause-before
returns-clause-before c = edges-all (names_in c.args.names.now) c.loop-place.place c.loop-place.edges.items (omega arith) c.loop-place.invariant
