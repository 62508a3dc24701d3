use Rattle.std.proofs.Common.{◌≡◌, [], ◌∷◌, ◌++◌, string_bytes, string_cmp, sym, ap, ◌∙◌, subst, append_assoc}
use Rattle.std.proofs.lemmas.Result.{err_from_is_err_and}
use Rattle.std.specs.List.Sorted.{IsStrictlySortedBy}
use Rattle.std.specs.Map.{keys_of}
use Rattle.serde_json.proofs.Views.{Entry}
use Rattle.serde_json.specs.View.{view}
use Rattle.tf_expr_json.proofs.Refusals.{Refuses-left, Refuses-right}
use Rattle.tf_expr_syntax.proofs.ExprViews.{entries_view-insert_entry}
use Rattle.tf_expr_json.proofs.Walked.{items_more, items_refused, members_more, members_refused}
use Rattle.tf_expr_json.specs.Demand.{a_plain_name}
use Rattle.tf_expr_json.specs.Reading.{expr_checks}
use Rattle.tf_expr_syntax.specs.ExprTree.{tree_of, entries_view}
use Rattle.tf_config_refusal.proofs.Places.{place_of-Member, place_of-Item}
use Rattle.tf_config_refusal.specs.Check.{demanded}
use Rattle.tf_config_refusal.specs.Place.{place_of}
use Rattle.tf_expr_json.proofs.reading.+read.Goals as goal

pub read_items-returns-in_err-expr-clause-fault : goal.read_items-returns-in_err-expr-clause-fault
read_items-returns-in_err-expr-clause-fault t c =
    let p = err_from_is_err_and c.from_residual-in_err-expr.result c.from_residual-in_err-expr.ensures.1 in
    let first = rw place_of-Item at c.in_err-expr.ensures.fault in
    rw (p.1, p.2, ← c.deref-item-items.ensures.value)
    (items_refused c.deref-item-items.result.now c.loop-position.exprs.items c.loop-position.position c.item-item.result c.loop-position-test.true c.item-item.is c.loop-position.invariant
    (place_of c.args.path.now) _ first)

pub read_items-loop-position-preserved : goal.read_items-loop-position-preserved
read_items-loop-position-preserved t c =
    rw c.in_ok-push.ensures.items
    (items_more c.deref-item-items.result.now c.loop-position.exprs.items c.loop-position.position c.item-item.result c.loop-position-test.true c.item-item.is c.loop-position.invariant
    c.in_ok-expr.expr c.in_ok-expr.ensures.ok)

pub read_members-returns-in_err-demand_plain_name-clause-fault :
    goal.read_members-returns-in_err-demand_plain_name-clause-fault
read_members-returns-in_err-demand_plain_name-clause-fault t c =
    let place = place_of c.args.path.now in
    let e : Entry = (c.in-Some.key.now, c.in-Some.member.now) in
    let p = err_from_is_err_and c.from_residual.result c.from_residual.ensures.1 in
    let first = rw (place_of-Member, c.as_str.ensures.value, c.as_str-in-loop-key.ensures.value) at c.in_err-demand_plain_name.ensures.fault in
    rw (p.1, p.2) (members_refused place c.args.members.now.entries c.loop-key.invariant.0 c.loop-key.key-iterator e c.next.new.self (entries_view c.loop-key.exprs.entries) _
    c.loop-key.invariant.1 c.in-Some.ensures.steps c.loop-key.invariant.2
    (Refuses-left (demanded (string_bytes e.0 ∷ place) (a_plain_name (string_bytes e.0))) (expr_checks (string_bytes e.0 ∷ place) (view e.1)) _ first))

pub read_members-returns-in_err-expr-clause-fault :
    goal.read_members-returns-in_err-expr-clause-fault
read_members-returns-in_err-expr-clause-fault t c =
    let place = place_of c.args.path.now in
    let e : Entry = (c.in-Some.key.now, c.in-Some.member.now) in
    let plain = rw c.as_str-in-loop-key.ensures.value at c.in_ok-demand_plain_name.ensures.ok in
    let first = rw (place_of-Member, c.as_str.ensures.value) at c.in_err-expr.ensures.fault in
    let p = err_from_is_err_and c.from_residual-in_err-expr.result c.from_residual-in_err-expr.ensures.1 in
    rw (p.1, p.2) (members_refused place c.args.members.now.entries c.loop-key.invariant.0 c.loop-key.key-iterator e c.next.new.self (entries_view c.loop-key.exprs.entries) _
    c.loop-key.invariant.1 c.in-Some.ensures.steps c.loop-key.invariant.2
    (Refuses-right (demanded (string_bytes e.0 ∷ place) (a_plain_name (string_bytes e.0))) (expr_checks (string_bytes e.0 ∷ place) (view e.1)) _ (plain, tt) first))

pub read_members-loop-key-preserved : goal.read_members-loop-key-preserved
read_members-loop-key-preserved t c =
    let done = c.loop-key.invariant.0 in
    let e : Entry = (c.in-Some.key.now, c.in-Some.member.now) in
    let all : c.args.members.now.entries ≡ done ++ e ∷ c.next.new.self = c.loop-key.invariant.1 ∙ ap (λ es. done ++ es) c.in-Some.ensures.steps in
    let sorted = subst (λ es. IsStrictlySortedBy string_cmp (keys_of es)) all c.iter-key-items.ensures.ordered in
    let plain = rw c.as_str-in-loop-key.ensures.value at c.in_ok-demand_plain_name.ensures.ok in
    let named : string_bytes c.in_ok-name.name ≡ string_bytes e.0 = c.in_ok-name.ensures.cases in
    let put_in = ap entries_view c.in_ok-insert.ensures.entries ∙ entries_view-insert_entry c.loop-key.exprs.entries c.in_ok-name.name c.in_ok-expr.expr in (
      done ++ e ∷ [],
      all ∙ sym (append_assoc done (e ∷ []) c.next.new.self),
      rw (put_in, named) (members_more done e c.next.new.self (entries_view c.loop-key.exprs.entries) (tree_of c.in_ok-expr.expr) sorted c.loop-key.invariant.2 plain c.in_ok-expr.ensures.ok),
    )
