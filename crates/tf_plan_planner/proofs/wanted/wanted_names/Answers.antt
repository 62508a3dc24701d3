use Rattle.std.proofs.Common.{◌≡◌, ◌<◌, ◌+◌, ◌||◌, ℕ, Bool, true, List, length, ap, subst, ◌∙◌, arith}
use Rattle.std.specs.Prelude.{◌↔◌}
use Rattle.std.proofs.lemmas.List.{length_push}
use Rattle.tf_expand_keys.proofs.Needing.{marked_more}
use Rattle.tf_expand_keys.specs.Module.{IsModule}
use Rattle.tf_expand_keys.specs.Needed.{IsNeededBy}
use Rattle.tf_expand_keys.specs.declared.table.ModuleParts.{ModuleParts}
use Rattle.tf_graph.specs.NodeSet.{has}
use Rattle.tf_config_names.specs.Table.{names_in}
use Rattle.tf_plan_planner.proofs.Wanting.{wanted_by_either}
use Rattle.tf_plan_planner.specs.Wanted.{IsNamed}
use Rattle.tf_expr_syntax.specs.ExprTree.{entries_view}
use Rattle.tf_plan_planner.proofs.wanted.wanted_names.Goals as goal

pub loop-place-preserved : goal.loop-place-preserved
loop-place-preserved c =
    let found = c.loop-place.wanted.items in
    let r = c.in_ok-by_resources.by_resources.items in
    let m = c.in_ok-named.named.items in
    let t = c.in_ok-by_named.by_named.items in
    record {
      long = ap (λ xs. length xs) c.in_ok-push.ensures.items ∙ length_push found c.is_either.result ∙ ap (λ k. k + 1) c.loop-place.invariant.long;
      each = marked_more (λ n (b : Bool). b ≡ (has r n || has m n || has t n)) c.loop-place.place found c.push.new.self.items c.is_either.result c.in_ok-push.ensures.items c.loop-place.invariant.long
          c.loop-place.invariant.each (rw (c.as_slice-in-loop-place.ensures.value, c.as_slice-in-loop-place-2.ensures.value, c.as_slice-in-loop-place-3.ensures.value) at c.is_either.ensures);
    }

pub returns : goal.returns
returns c =
    let fits = subst IsModule c.declared.view_is c.declared.invariant in
    let names = names_in c.args.declared.now.names.now in
    let d = c.args.declared.now.dependence.now in
    let named =
    subst (λ (m : ModuleParts). (n : ℕ) → (has c.in_ok-named.named.items n ≡ true) ↔ IsNamed (names_in m.names.now) (entries_view c.args.outputs.now.entries) n) c.declared.view_is c.in_ok-named.ensures in
    let by_named =
    subst (λ (m : ModuleParts). (n : ℕ) → n < m.dependence.now.graph.nodes → (has c.in_ok-by_named.by_named.items n ≡ true) ↔ IsNeededBy (λ a. has c.as_slice.result.now a ≡ true) m.dependence.now n) c.declared.view_is
    c.in_ok-by_named.ensures in
    let through : (n : ℕ) → n < length names → (has c.in_ok-by_named.by_named.items n ≡ true) ↔ IsNeededBy (λ a. has c.in_ok-named.named.items a ≡ true) d n = λ n h.
    subst (λ (xs : List Bool). (has c.in_ok-by_named.by_named.items n ≡ true) ↔ IsNeededBy (λ a. has xs a ≡ true) d n) c.as_slice.ensures.value (by_named n (omega (arith, h, fits.dependence.count))) in
    wanted_by_either names c.args.declared.now.dependence.now (entries_view c.args.outputs.now.entries) c.in_ok-by_resources.by_resources.items c.in_ok-named.named.items c.in_ok-by_named.by_named.items
    c.loop-place.wanted.items c.in_ok-by_resources.ensures named through
    (λ n h. c.loop-place.invariant.each n (omega (arith, h, c.loop-place-test.false, c.len-place-end.ensures, ap (λ (m : ModuleParts). length (names_in m.names.now)) c.declared.view_is)))
