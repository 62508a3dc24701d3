use Rattle.std.proofs.Common.{◌≡◌, Some, option_map, sym, ap, ◌∙◌}
use Rattle.std.proofs.lemmas.List.{nil_from_length}
use Rattle.std.specs.Vec.Iter.{into_iter_items}
use Rattle.tf_value_data.specs.Tree.{item, items_view, tree_of}
use Rattle.tf_value_data.proofs.Views.{tree_of-List}
use Rattle.tf_expr_operators.specs.Answer.{items_behind, list_value}
use Rattle.tf_expr_operators.specs.Functions.{concatenated, items_value}
use Rattle.tf_expr_operators.proofs.Faults.{Gives-equal}
use Rattle.tf_expr_operators.proofs.Rows.{concatenated-step, items_behind-nil}
use Rattle.tf_expr_operators.proofs.collections.concat.Goals as goal

pub loop-argument-preserved : goal.loop-argument-preserved
loop-argument-preserved c =
    let done = c.loop-argument.joined.items in
    let rest = into_iter_items c.next.new.self in
    let seen = ap tree_of c.in-List.is ∙ tree_of-List c.in-List.items in
    ap (λ xs. option_map (items_behind (items_view xs)) (concatenated (items_view rest))) c.in_ok-append-in-List.ensures.items
    ∙ concatenated-step done c.in-List.items.items (concatenated (items_view rest))
    ∙ ap (λ t. option_map (items_behind (items_view done)) (concatenated (item t (items_view rest)))) (sym seen)
    ∙ ap (λ xs. option_map (items_behind (items_view done)) (concatenated (items_view xs))) (sym c.in-Some.ensures.steps.0)
    ∙ c.loop-argument.invariant

pub returns : goal.returns
returns c =
    let all = c.args.arguments.items in
    let done = c.loop-argument.joined.items in
    let joined : concatenated (items_view all) ≡ Some (items_view done) =
    sym c.loop-argument.invariant ∙ ap (λ xs. option_map (items_behind (items_view done)) (concatenated (items_view xs))) (nil_from_length _ (sym c.loop-argument.argument-iterator.rest.ok.0 ∙ c.in-None.ensures.steps.0)) ∙ ap Some (items_behind-nil (items_view done)) in
    Gives-equal (list_value (items_view done)) _ c.list.result (sym (ap items_value joined)) c.list.ensures
