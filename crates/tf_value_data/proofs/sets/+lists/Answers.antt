use Rattle.std.proofs.Common.{◌≡◌, true, false, [], ◌++◌, map, refl, sym, ap, ◌∙◌}
use Rattle.std.proofs.lemmas.List.{append-nil, nil_from_length}
use Rattle.std.specs.Vec.Iter.{into_iter_items}
use Rattle.tf_value_data.specs.Sets.{with_lists}
use Rattle.tf_value_data.specs.Tree.{list, tree_of, items_of, items_view}
use Rattle.tf_value_data.proofs.Rewriting.{items_rewritten-each, rewritten_shown}
use Rattle.tf_value_data.proofs.Views.{shown_more, shown_all, texts-items, tree_of-List, tree_of-Set}
use Rattle.tf_value_data.proofs.sets.+lists.Goals as goal

pub entries_with_lists-loop-key-preserved : goal.entries_with_lists-loop-key-preserved
entries_with_lists-loop-key-preserved t c =
    shown_more (λ v. with_lists (tree_of v)) c.args.entries.entries _ c.next.new.self (c.in-Some.key, c.in-Some.value) _ _ _ _ c.into_iter-key-iterator.ensures.into_iter_gives.5 c.in-Some.ensures.steps c.in_ok-insert.ensures.entries refl c.in_ok-with_lists.ensures c.loop-key.invariant

pub entries_with_lists-returns : goal.entries_with_lists-returns
entries_with_lists-returns t c =
    shown_all (λ v. with_lists (tree_of v)) c.args.entries.entries _ _ c.in-None.ensures.steps.0 c.loop-key.invariant ∙ rewritten_shown false true c.args.entries.entries

pub items_with_lists-returns : goal.items_with_lists-returns
items_with_lists-returns t c =
    let done = map tree_of c.loop-item.rewrites.items in
    let none : into_iter_items c.loop-item.item-iterator ≡ [] = nil_from_length _ (sym c.loop-item.item-iterator.rest.ok.0 ∙ c.in-None.ensures.steps.0) in
    let all = sym (append-nil done) ∙ sym (ap (λ vs. done ++ map (λ v. with_lists (tree_of v)) vs) none) ∙ c.loop-item.invariant in
    ap items_of all ∙ items_rewritten-each false true c.args.items.items

pub with_lists-returns-in_ok-text_values-in-Set : goal.with_lists-returns-in_ok-text_values-in-Set
with_lists-returns-in_ok-text_values-in-Set t c =
    tree_of-List c.in_ok-text_values-in-Set.field-0 ∙ ap list (ap items_view c.in_ok-text_values-in-Set.ensures ∙ texts-items c.in-Set.texts.keys)
    ∙ sym (ap with_lists (ap tree_of c.in-Set.is ∙ tree_of-Set c.in-Set.texts))
