use Rattle.std.proofs.Common.{◌+◌, ◌∷◌, string_bytes, drop}
use Rattle.std.proofs.lemmas.Result.{err_from_is_err_and}
use Rattle.std.specs.Fmt.{decimal}
use Rattle.serde_json.proofs.Views.{Entry}
use Rattle.serde_json.specs.View.{view, items_view, members_view}
use Rattle.tf_config_json.proofs.Walks.{drop_next, left_more, left_refused}
use Rattle.tf_config_json.specs.Demand.{IsMet, Fails}
use Rattle.tf_config_json.specs.Parts.{number_checks, item_number_checks, member_number_checks}
use Rattle.tf_config_refusal.proofs.Places.{place_of-Member, place_of-Item}
use Rattle.tf_config_refusal.specs.Place.{place_of}
use Rattle.tf_config_json.proofs.literals.+numbers.Goals as goal

pub demand_each_number-loop-position-preserved : goal.demand_each_number-loop-position-preserved
demand_each_number-loop-position-preserved t c =
    let place = place_of c.args.path.now in
    let i = c.loop-position.position in
    let left = rw (drop_next c.deref-item-items.result.now i c.item-item.result c.loop-position-test.true c.item-item.is) at c.loop-position.invariant in
    left_more IsMet (item_number_checks place 0 (items_view c.deref-item-items.result.now)) (number_checks (decimal i ∷ place) (view c.item-item.result)) (item_number_checks place (i + 1) (items_view (drop (i + 1) c.deref-item-items.result.now))) left
    (rw place_of-Item at c.in_ok-demand_numbers.ensures)

pub demand_each_number-returns-in_err-demand_numbers : goal.demand_each_number-returns-in_err-demand_numbers
demand_each_number-returns-in_err-demand_numbers t c =
    let place = place_of c.args.path.now in
    let i = c.loop-position.position in
    let p = err_from_is_err_and c.from_residual.result c.from_residual.ensures.1 in
    rw (p.1, p.2, ← c.deref-item-items.ensures.value)
    (left_refused IsMet Fails (item_number_checks place 0 (items_view c.deref-item-items.result.now)) (number_checks (decimal i ∷ place) (view c.item-item.result)) (item_number_checks place (i + 1) (items_view (drop (i + 1) c.deref-item-items.result.now))) _
    (rw (drop_next c.deref-item-items.result.now i c.item-item.result c.loop-position-test.true c.item-item.is) at c.loop-position.invariant)
    (rw place_of-Item at c.in_err-demand_numbers.ensures))

pub demand_member_numbers-loop-key-preserved : goal.demand_member_numbers-loop-key-preserved
demand_member_numbers-loop-key-preserved t c =
    let place = place_of c.args.path.now in
    let e : Entry = (c.in-Some.key.now, c.in-Some.member.now) in
    let left = rw c.in-Some.ensures.steps at c.loop-key.invariant in
    let known = rw (place_of-Member, c.as_str.ensures.value) at c.in_ok-demand_numbers.ensures in
    left_more IsMet (member_number_checks place (members_view c.args.members.now.entries)) (number_checks (string_bytes e.0 ∷ place) (view e.1)) (member_number_checks place (members_view c.next.new.self)) left known

pub demand_member_numbers-returns-in_err-demand_numbers : goal.demand_member_numbers-returns-in_err-demand_numbers
demand_member_numbers-returns-in_err-demand_numbers t c =
    let place = place_of c.args.path.now in
    let e : Entry = (c.in-Some.key.now, c.in-Some.member.now) in
    let p = err_from_is_err_and c.from_residual.result c.from_residual.ensures.1 in
    let left = rw c.in-Some.ensures.steps at c.loop-key.invariant in
    let first = rw (place_of-Member, c.as_str.ensures.value) at c.in_err-demand_numbers.ensures in
    rw (p.1, p.2)
    (left_refused IsMet Fails (member_number_checks place (members_view c.args.members.now.entries)) (number_checks (string_bytes e.0 ∷ place) (view e.1)) (member_number_checks place (members_view c.next.new.self)) _ left first)
