use Rattle.std.proofs.Common.{◌≡◌, [], Some, Ok, sym, ap, ◌∙◌}
use Rattle.std.proofs.lemmas.List.{nil_from_length}
use Rattle.std.specs.Vec.Iter.{into_iter_items}
use Rattle.tf_value_data.specs.Tree.{item, items_view, texts_view, tree_of}
use Rattle.tf_value_data.proofs.Views.{tree_of-Set, tree_of-Text}
use Rattle.tf_expr_operators.specs.Functions.{texts_value, texts_with}
use Rattle.tf_expr_operators.proofs.Rows.{texts_view-insert_key}
use Rattle.tf_expr_operators.proofs.collections.set_of_texts.Goals as goal

pub loop-item-preserved : goal.loop-item-preserved
loop-item-preserved c =
    let old = c.loop-item.texts.keys in
    let rest = into_iter_items c.next.new.self in
    let seen = ap tree_of c.in-Text.is ∙ tree_of-Text c.in-Text.text in
    let put_in = ap texts_view c.in_ok-insert-in-Text.ensures.keys ∙ texts_view-insert_key old c.in-Text.text in
    ap (λ ss. texts_with ss (items_view rest)) put_in
    ∙ ap (λ t. texts_with (texts_view old) (item t (items_view rest))) (sym seen)
    ∙ ap (λ xs. texts_with (texts_view old) (items_view xs)) (sym c.in-Some.ensures.steps.0)
    ∙ c.loop-item.invariant

pub returns : goal.returns
returns c =
    let all = items_view c.args.items.items in
    let done = texts_view c.loop-item.texts.keys in
    let read : texts_with [] all ≡ Some done =
    sym c.loop-item.invariant ∙ ap (λ xs. texts_with done (items_view xs)) (nil_from_length _ (sym c.loop-item.item-iterator.rest.ok.0 ∙ c.in-None.ensures.steps.0)) in
    ap texts_value read ∙ ap Ok (sym (tree_of-Set c.loop-item.texts))
