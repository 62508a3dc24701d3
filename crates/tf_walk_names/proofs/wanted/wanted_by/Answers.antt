use Rattle.std.proofs.Common.{◌≡◌, ◌<◌, ◌-◌, ℕ, Bool, true, false, List, length, slice_index_or, Contains, refl, sym, ap, subst, ◌∙◌, arith}
use Rattle.std.proofs.lemmas.List.{get_or_default, length-replicate}
use Rattle.std.specs.Prelude.{◌⊎◌, ◌↔◌}
use Rattle.tf_config_data.specs.Names.{directly_before}
use Rattle.tf_graph.specs.NodeSet.{has}
use Rattle.tf_graph.specs.Order.{IsInOrder}
use Rattle.tf_config_names.specs.Needs.{order_in}
use Rattle.tf_config_names.specs.Table.{names_in}
use Rattle.tf_expand_keys.specs.Module.{IsModule}
use Rattle.tf_expand_keys.specs.declared.table.ModuleParts.{ModuleParts}
use Rattle.tf_expand_keys.proofs.Marking.{empty_marks, written_back}
use Rattle.tf_walk_names.proofs.Wanting.{Spreads, spread_start, spread_more, spread_all}
use Rattle.tf_walk_names.proofs.wanted.wanted_by.Goals as goal

pub loop-index-init : goal.loop-index-init
loop-index-init c =
    let names = names_in c.args.declared.now.names.now in
    let order : List ℕ = c.order-order.result.now in
    let none = c.in_ok-wanted.wanted in
    let marked : List Bool = c.mark.new.marked in
    let same : c.as_mut_slice.result.now ≡ none.items = c.as_mut_slice.ensures.value in
    let long : length marked ≡ length none.items = c.mark.ensures.length ∙ ap (λ xs. length xs) same in
    let count : length none.items ≡ length names = ap (λ xs. length xs) c.in_ok-wanted.ensures ∙ length-replicate c.len.result false ∙ c.len.ensures ∙ ap (λ (m : ModuleParts). length (names_in m.names.now)) c.declared.view_is in
    rw (written_back none.len none.items marked (omega (arith, none.ok.0)) long)
    (spread_start names order c.args.others.now none.items marked (long ∙ count)
    (λ n. ap (λ xs. has xs n) c.in_ok-wanted.ensures ∙ empty_marks c.len.result n)
    (subst (λ xs. (n : ℕ) → (has marked n ≡ true) ↔ ((has xs n ≡ true) ⊎ Contains c.args.others.now n)) same c.mark.ensures.marked))

pub mark_named-requires-clause-place : goal.mark_named-requires-clause-place
mark_named-requires-clause-place c =
    let order : List ℕ = c.order-order.result.now in
    let i : ℕ = c.loop-index.index - 1 in
    let below : i < length order = omega (arith, c.loop-index-test.true, c.loop-index.auto.index) in
    let p : ℕ = slice_index_or order i 0 in
    let fits = subst IsModule c.declared.view_is c.declared.invariant in
    fits.dependence.within p (subst (λ xs. Contains xs p) (c.order-order.ensures ∙ ap (λ (m : ModuleParts). order_in m.dependence.now) c.declared.view_is) (i, below, get_or_default order i p 0 below))

pub loop-index-preserved : goal.loop-index-preserved
loop-index-preserved c =
    let names = names_in c.args.declared.now.names.now in
    let order : List ℕ = c.order-order.result.now in
    let i : ℕ = c.loop-index.index - 1 in
    let p : ℕ = slice_index_or order i 0 in
    let below : i < length order = omega (arith, c.loop-index-test.true, c.loop-index.auto.index) in
    let was = c.loop-index.wanted in
    let now : List Bool = c.mark_named.new.wanted in
    let same : c.as_mut_slice-in-loop-index.result.now ≡ was.items = c.as_mut_slice-in-loop-index.ensures.value in
    let long : length now ≡ length was.items = c.mark_named.ensures.length ∙ ap (λ xs. length xs) same in
    let fits = subst IsModule c.declared.view_is c.declared.invariant in
    let ordered : IsInOrder (directly_before names) order = subst (λ xs. IsInOrder (directly_before names) xs) (sym (c.order-order.ensures ∙ ap (λ (m : ModuleParts). order_in m.dependence.now) c.declared.view_is)) fits.dependence.in_order in
    rw (written_back was.len was.items now (omega (arith, was.ok.0)) long)
    (spread_more names order c.args.others.now i c.loop-index.index p was.items now ordered below (omega (arith, c.loop-index-test.true)) refl long
    (subst (λ xs. (n : ℕ) → (has now n ≡ true) ↔ ((has xs n ≡ true) ⊎ Spreads names xs p n)) same c.mark_named.ensures.marked) c.loop-index.invariant)

pub returns-clause-wanted : goal.returns-clause-wanted
returns-clause-wanted c =
    let fits = subst IsModule c.declared.view_is c.declared.invariant in
    spread_all (names_in c.args.declared.now.names.now) c.order-order.result.now c.args.others.now c.loop-index.index c.loop-index.wanted.items
    (λ n h. subst (λ xs. Contains xs n) (sym (c.order-order.ensures ∙ ap (λ (m : ModuleParts). order_in m.dependence.now) c.declared.view_is)) (fits.dependence.whole fits.acyclic n h)) (omega (arith, c.loop-index-test.false)) c.loop-index.invariant
