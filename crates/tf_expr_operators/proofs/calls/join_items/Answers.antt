use Rattle.std.proofs.Common.{◌≡◌, [], ◌∷◌, drop, sym, ap, ◌∙◌, ◌+◌}
use Rattle.std.proofs.Math.ListN.{drop_of_length-le}
use Rattle.tf_value_data.specs.Tree.{no_items, item, tree_of, items_view}
use Rattle.tf_expr_operators.specs.Answer.{item_behind, items_behind}
use Rattle.tf_expr_operators.specs.Functions.{each_after, spaced}
use Rattle.tf_expr_operators.specs.Joining.{joined_value}
use Rattle.tf_expr_operators.proofs.Faults.{Gives-equal}
use Rattle.tf_expr_operators.proofs.Rows.{items_behind-step, items_behind-nil, items_view-drop}
use Rattle.tf_expr_operators.proofs.calls.join_items.Goals as goal

pub loop-item-init : goal.loop-item-init
loop-item-init c =
    let s = tree_of c.args.separator.now in
    let all : c.args.items.now.items ≡ c.in-Some.first.now ∷ c.in-Some.others.now = sym c.deref.ensures.value ∙ c.in-Some.ensures.cases.0 in
    (item (tree_of c.in-Some.first.now) no_items, c.in_ok-push_value.ensures.ok no_items c.new-joiner.ensures, sym (ap (λ vs. spaced s (items_view vs)) all))

pub loop-item-preserved : goal.loop-item-preserved
loop-item-preserved c =
    let s = tree_of c.args.separator.now in
    let ts = c.loop-item.invariant.0 in
    let i = c.loop-item.item-index in
    let others = c.in-Some.others.now in
    let one = c.in_ok-push_value-2.ensures.ok ts c.loop-item.invariant.1 in
    let two = c.in_ok-push_value-3.ensures.ok (item_behind ts s) one in
    let t = tree_of c.item-item.result in
    let left = each_after s (items_view (drop (i + 1) others)) in
    let here : each_after s (items_view (drop i others)) ≡ item s (item t left) =
    ap (each_after s) (items_view-drop others i c.item-item.result c.loop-item-test.true ∙ ap (λ v. item (tree_of v) (items_view (drop (i + 1) others))) (sym c.item-item.is)) in (
      item_behind (item_behind ts s) t,
      two,
      items_behind-step (item_behind ts s) t left ∙ items_behind-step ts s (item t left) ∙ ap (items_behind ts) (sym here) ∙ c.loop-item.invariant.2,
    )

pub returns : goal.returns
returns c =
    let ts = c.loop-item.invariant.0 in
    let s = tree_of c.args.separator.now in
    let none : drop c.loop-item.item-index c.in-Some.others.now ≡ [] = drop_of_length-le c.in-Some.others.now c.loop-item-test.false in
    let all : ts ≡ spaced s (items_view c.args.items.now.items) =
    sym (items_behind-nil ts) ∙ ap (λ vs. items_behind ts (each_after s (items_view vs))) (sym none) ∙ c.loop-item.invariant.2 in
    Gives-equal _ _ c.finish-2.result (c.loop-item.invariant.1 ∙ ap joined_value all) c.finish-2.ensures
