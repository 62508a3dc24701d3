use Rattle.std.proofs.Common.{◌+◌, ◌∷◌, drop, map}
use Rattle.std.proofs.lemmas.Result.{err_from_is_err_and}
use Rattle.tf_config_refusal.proofs.Places.{place_of-Member}
use Rattle.tf_config_refusal.specs.Place.{place_of}
use Rattle.tf_config_names.proofs.NameWalks.{left_more, left_refused}
use Rattle.tf_config_names.proofs.Tables.{drop_next}
use Rattle.tf_config_names.specs.KnownNames.{declared_of, body_checks, property_checks}
use Rattle.tf_config_names.specs.Properties.{property_view, value_view}
use Rattle.tf_config_names.proofs.known_names.demand_properties.Goals as goal

pub loop-property-preserved : goal.loop-property-preserved
loop-property-preserved c =
    let place = place_of c.args.path.now in
    let i = c.loop-property.property-index in
    let p = c.property-item.result in
    let left = rw (drop_next c.args.properties.now i p c.loop-property-test.true c.property-item.is) at c.loop-property.invariant in
    left_more (declared_of c.args.known) (body_checks place (map property_view c.args.properties.now)) (property_checks (p.name.now ∷ place) (value_view p.value)) (body_checks place (map property_view (drop (i + 1) c.args.properties.now))) left
    (rw place_of-Member at c.in_ok-demand_value.ensures)

pub returns-in_err-demand_value : goal.returns-in_err-demand_value
returns-in_err-demand_value c =
    let place = place_of c.args.path.now in
    let i = c.loop-property.property-index in
    let p = c.property-item.result in
    let e = err_from_is_err_and c.from_residual.result c.from_residual.ensures.1 in
    let left = rw (drop_next c.args.properties.now i p c.loop-property-test.true c.property-item.is) at c.loop-property.invariant in
    let first = rw place_of-Member at c.in_err-demand_value.ensures in
    rw (e.1, e.2)
    (left_refused (declared_of c.args.known) (body_checks place (map property_view c.args.properties.now)) (property_checks (p.name.now ∷ place) (value_view p.value)) (body_checks place (map property_view (drop (i + 1) c.args.properties.now))) _ left first)
