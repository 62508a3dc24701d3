use Rattle.std.proofs.Common.{◌+◌, ◌∷◌, string_bytes, drop}
use Rattle.std.proofs.lemmas.Result.{err_from_is_err_and}
use Rattle.std.specs.Fmt.{decimal}
use Rattle.tf_config_refusal.proofs.Places.{place_of-Member, place_of-Item}
use Rattle.tf_config_refusal.specs.Place.{place_of}
use Rattle.tf_config_names.proofs.NameWalks.{left_more, left_refused}
use Rattle.tf_config_names.proofs.Tables.{drop_next}
use Rattle.tf_config_names.specs.KnownNames.{declared_of, name_checks, item_name_checks, entry_name_checks}
use Rattle.tf_expr_syntax.specs.ExprTree.{tree_of, trees_view, entries_view}
use Rattle.tf_config_names.proofs.known_names.+names.Goals as goal

pub demand_items-loop-position-preserved : goal.demand_items-loop-position-preserved
demand_items-loop-position-preserved t c =
    let place = place_of c.args.path.now in
    let all = c.deref-expr-items.result.now in
    let i = c.loop-position.position in
    let left = rw (drop_next all i c.expr-item.result c.loop-position-test.true c.expr-item.is) at c.loop-position.invariant in
    left_more (declared_of c.args.known) (item_name_checks c.args.context place 0 (trees_view all)) (name_checks c.args.context (decimal i ∷ place) (tree_of c.expr-item.result)) (item_name_checks c.args.context place (i + 1) (trees_view (drop (i + 1) all))) left
    (rw place_of-Item at c.in_ok-demand_expr.ensures)

pub demand_items-returns-in_err-demand_expr : goal.demand_items-returns-in_err-demand_expr
demand_items-returns-in_err-demand_expr t c =
    let place = place_of c.args.path.now in
    let all = c.deref-expr-items.result.now in
    let i = c.loop-position.position in
    let p = err_from_is_err_and c.from_residual.result c.from_residual.ensures.1 in
    let left = rw (drop_next all i c.expr-item.result c.loop-position-test.true c.expr-item.is) at c.loop-position.invariant in
    let first = rw place_of-Item at c.in_err-demand_expr.ensures in
    rw (p.1, p.2, ← c.deref-expr-items.ensures.value)
    (left_refused (declared_of c.args.known) (item_name_checks c.args.context place 0 (trees_view all)) (name_checks c.args.context (decimal i ∷ place) (tree_of c.expr-item.result)) (item_name_checks c.args.context place (i + 1) (trees_view (drop (i + 1) all))) _ left first)

pub demand_entries-loop-key-preserved : goal.demand_entries-loop-key-preserved
demand_entries-loop-key-preserved t c =
    let place = place_of c.args.path.now in
    let left = rw c.in-Some.ensures.steps at c.loop-key.invariant in
    let known = rw (place_of-Member, c.as_str.ensures.value) at c.in_ok-demand_expr.ensures in
    left_more (declared_of c.args.known) (entry_name_checks c.args.context place (entries_view c.args.entries.now.entries)) (name_checks c.args.context (string_bytes c.in-Some.key.now ∷ place) (tree_of c.in-Some.expr.now)) (entry_name_checks c.args.context place (entries_view c.next.new.self)) left known

pub demand_entries-returns-in_err-demand_expr : goal.demand_entries-returns-in_err-demand_expr
demand_entries-returns-in_err-demand_expr t c =
    let place = place_of c.args.path.now in
    let p = err_from_is_err_and c.from_residual.result c.from_residual.ensures.1 in
    let left = rw c.in-Some.ensures.steps at c.loop-key.invariant in
    let first = rw (place_of-Member, c.as_str.ensures.value) at c.in_err-demand_expr.ensures in
    rw (p.1, p.2)
    (left_refused (declared_of c.args.known) (entry_name_checks c.args.context place (entries_view c.args.entries.now.entries)) (name_checks c.args.context (string_bytes c.in-Some.key.now ∷ place) (tree_of c.in-Some.expr.now)) (entry_name_checks c.args.context place (entries_view c.next.new.self)) _ left first)
