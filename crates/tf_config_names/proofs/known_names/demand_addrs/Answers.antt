use Rattle.std.proofs.Common.{◌+◌, ◌∷◌, drop, map}
use Rattle.std.proofs.lemmas.Result.{err_from_is_err_and}
use Rattle.std.specs.Fmt.{decimal}
use Rattle.tf_config_address.specs.ResourceAddr.{addr_of}
use Rattle.tf_config_refusal.proofs.Places.{place_of-Item}
use Rattle.tf_config_refusal.specs.Check.{demanded}
use Rattle.tf_config_refusal.specs.Place.{place_of}
use Rattle.tf_config_names.proofs.NameWalks.{left_more, left_refused}
use Rattle.tf_config_names.proofs.Tables.{drop_next}
use Rattle.tf_config_names.specs.KnownNames.{declared_of, addr_checks, a_resource}
use Rattle.tf_config_names.proofs.known_names.demand_addrs.Goals as goal

pub loop-position-preserved : goal.loop-position-preserved
loop-position-preserved c =
    let place = place_of c.args.path.now in
    let i = c.loop-position.position in
    let addr = c.index-addrs-position.result in
    let left = rw (drop_next c.args.addrs.now i addr c.loop-position-test.true c.index-addrs-position.is) at c.loop-position.invariant in
    left_more (declared_of c.args.known) (addr_checks place 0 (map addr_of c.args.addrs.now)) (demanded (decimal i ∷ place) (a_resource (addr_of addr))) (addr_checks place (i + 1) (map addr_of (drop (i + 1) c.args.addrs.now))) left
    c.in_ok-demand_addr.ensures

pub returns-in_err-demand_addr : goal.returns-in_err-demand_addr
returns-in_err-demand_addr c =
    let place = place_of c.args.path.now in
    let i = c.loop-position.position in
    let addr = c.index-addrs-position.result in
    let e = err_from_is_err_and c.from_residual.result c.from_residual.ensures.1 in
    let left = rw (drop_next c.args.addrs.now i addr c.loop-position-test.true c.index-addrs-position.is) at c.loop-position.invariant in
    let first = rw place_of-Item at c.in_err-demand_addr.ensures in
    rw (e.1, e.2)
    (left_refused (declared_of c.args.known) (addr_checks place 0 (map addr_of c.args.addrs.now)) (demanded (decimal i ∷ place) (a_resource (addr_of addr))) (addr_checks place (i + 1) (map addr_of (drop (i + 1) c.args.addrs.now))) _ left first)
