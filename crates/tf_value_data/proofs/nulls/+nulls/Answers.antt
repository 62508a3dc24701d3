use Rattle.std.proofs.Common.{rules, arith, ◌≡◌, ◌≤◌, ◌+◌, ◌*◌, true, false, length, ◌∙◌, sym, ap, map}
use Rattle.std.proofs.lemmas.List.{take_all}
use Rattle.tf_value_data.specs.Nulls.{with_nulls}
use Rattle.tf_value_data.specs.Tree.{tree_of, items_of}
use Rattle.tf_value_data.specs.declared.value.Value.{Value, size-Value}
use Rattle.tf_value_data.proofs.Retained.{value_at_most, retained-nulls}
use Rattle.tf_value_data.proofs.Rewriting.{items_rewritten-each}
use Rattle.tf_value_data.proofs.Views.{Entry}
use Rattle.tf_value_data.proofs.nulls.+nulls.Goals as goal
use denote.Param.Weighed.{most}

pub entries_with_nulls-retain-requires : goal.entries_with_nulls-retain-requires
entries_with_nulls-retain-requires t c = record {
  at = λ before after f k v split folds p q pk qv.
      let d : 3 * most size-Value (map (λ (e : Entry). e.1) c.args.entries.entries) + 2 ≡ t = c.decreases in
      let h : size-Value v ≤ most size-Value (map (λ (e : Entry). e.1) c.args.entries.entries) = rw split (value_at_most size-Value before after k v) in
      let e = ap size-Value qv in
      (omega (arith, d, h, e), tt);
}

pub entries_with_nulls-returns : goal.entries_with_nulls-returns
entries_with_nulls-returns t c =
    retained-nulls _ (λ f k v b w f' call. (search rules, search rules)) _ c.args.entries.entries _ c.retain.ensures.filtered

pub items_with_nulls-returns : goal.items_with_nulls-returns
items_with_nulls-returns t c =
    let before = c.args.items.items in
    let after = c.loop-index.items.items in
    let same : length after ≡ length before = c.loop-index.invariant.0.0 in
    let passed : length after ≤ c.loop-index.index = omega (arith, c.loop-index-test.false, c.len-index-end.ensures, same) in
    let all : map tree_of after ≡ map (λ (v : Value). with_nulls (tree_of v)) before =
    sym (ap (map tree_of) (take_all c.loop-index.index after passed)) ∙ c.loop-index.invariant.1
    ∙ ap (map (λ (v : Value). with_nulls (tree_of v))) (take_all c.loop-index.index before (omega (arith, passed, same))) in
    ap items_of all ∙ items_rewritten-each true false before
