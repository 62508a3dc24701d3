use Rattle.std.proofs.Common.{◌≡◌, map as each, string_cmp, sym, ap, ◌∙◌, subst, rules}
use Rattle.std.proofs.lemmas.List.{take_all}
use Rattle.std.specs.List.Sorted.{IsStrictlySortedBy}
use Rattle.std.specs.Map.{keys_of}
use Rattle.tf_value_data.specs.Tree.{tree_of, list, map, items_of, entries_view}
use Rattle.tf_value_data.proofs.Views.{shown_more, shown_all, tree_of-List, tree_of-Map}
use Rattle.tf_value_data.proofs.copies.+copy.Goals as goal

pub loop-key-preserved : goal.loop-key-preserved
loop-key-preserved t c =
    let all : c.into_iter-key-iterator.result ≡ c.in-Map.entries.entries = search rules in
    let ordered = subst (λ es. IsStrictlySortedBy string_cmp (keys_of es)) (sym all) c.iter-key-items.ensures.ordered in
    shown_more tree_of c.into_iter-key-iterator.result _ c.next.new.self (c.in-Some.key.now, c.in-Some.value.now) _ _ _ _ ordered c.in-Some.ensures.steps c.in_ok-insert-in-Map.ensures.entries c.in_ok-name-in-Map.ensures.cases c.in_ok-copy-in-Map.ensures c.loop-key.invariant

pub returns-in-None : goal.returns-in-None
returns-in-None t c =
    let all : c.into_iter-key-iterator.result ≡ c.in-Map.entries.entries = search rules in
    tree_of-Map c.loop-key.copies ∙ ap map (shown_all tree_of c.into_iter-key-iterator.result _ _ c.in-None.ensures.steps.0 c.loop-key.invariant ∙ ap entries_view all) ∙ sym (ap tree_of c.in-Map.is ∙ tree_of-Map c.in-Map.entries)

pub returns-after-loop-item : goal.returns-after-loop-item
returns-after-loop-item t c =
    tree_of-List c.loop-item.copies ∙ ap list (ap items_of (c.loop-item.invariant ∙ ap (each tree_of) (take_all c.loop-item.item-index _ c.loop-item-test.false ∙ c.deref-item-items.ensures.value))) ∙ sym (ap tree_of c.in-List.is ∙ tree_of-List c.in-List.items)
