use Rattle.std.proofs.Common.{map}
use Rattle.std.proofs.lemmas.List.{map-append}
use Rattle.std.proofs.lemmas.Result.{err_from_is_err_and}
use Rattle.tf_config_json.proofs.Members.{element_more, element_refused}
use Rattle.tf_config_refusal.proofs.Places.{place_of-Item}
use Rattle.tf_config_refusal.specs.Place.{place_of}
use Rattle.tf_config_json.proofs.arrays.read_each.Goals as goal

pub returns-in_err-said-clause-fault : goal.returns-in_err-said-clause-fault
returns-in_err-said-clause-fault g c =
    let p = err_from_is_err_and c.from_residual-in_err-said.result c.from_residual-in_err-said.ensures.1 in
    let first = rw place_of-Item at c.in_err-said.ensures.fault in
    rw (p.1, p.2, ← c.deref-value-items.ensures.value)
    (element_refused g.E.Listed.OutView g.E.Listed.checks g.E.Listed.says c.deref-value-items.result.now (map g.E.Listed.out_view c.loop-position.all.items) c.loop-position.position c.value-item.result c.loop-position-test.true c.value-item.is c.loop-position.invariant
    c.requires.sound (place_of c.args.path.now) _ first)

pub loop-position-preserved : goal.loop-position-preserved
loop-position-preserved g c =
    rw (c.in_ok-push.ensures.items, map-append)
    (element_more g.E.Listed.OutView g.E.Listed.checks g.E.Listed.says c.deref-value-items.result.now (map g.E.Listed.out_view c.loop-position.all.items) c.loop-position.position c.value-item.result c.loop-position-test.true c.value-item.is c.loop-position.invariant
    (g.E.Listed.out_view c.in_ok-said.said) c.in_ok-said.ensures.ok)
