-- A map each of whose values is rewritten where it stands.
use Rattle.std.proofs.Common.{◌≡◌, ◌≤◌, ℕ, Bool, true, cond, List, [], ◌∷◌, ◌++◌, map as each, arith, string_bytes, String, Global, ap, ap₂, ◌∙◌}
use Rattle.std.specs.Map.Calls.{RetainsPairs}
use Rattle.tf_value_data.specs.Nulls.{with_nulls, entries_with_nulls}
use Rattle.tf_value_data.specs.Tree.{entry, tree_of, entries_view}
use Rattle.tf_value_data.specs.declared.value.Value.{Value}
use Rattle.tf_value_data.proofs.Views.{Entry}
use denote.Param.Weighed.{most}

-- no value of a map's is deeper than the deepest
pub value_at_most : (size : Value → ℕ) (before after : List Entry) (k : String Global) (v : Value) → size v ≤ most size (each (λ (e : Entry). e.1) (before ++ (k, v) ∷ after))
value_at_most size [] after k v = omega arith
value_at_most size (e ∷ es) after k v = let h : size v ≤ most size (each (λ (e : Entry). e.1) (es ++ (k, v) ∷ after)) = value_at_most size es after k v in omega arith

-- where each value is kept, with null for what isn't known in it
module _ {F : Type 0} (T : F → String Global → Value → Bool → Value → F → Type 0) (writes : (f : F) (k : String Global) (v : Value) (b : Bool) (w : Value) (f' : F) → T f k v b w f' → (b ≡ true) × (tree_of w ≡ with_nulls (tree_of v))) where
  pub retained-nulls : (f : F) (es kept : List Entry) → RetainsPairs T f es kept → entries_view kept ≡ entries_with_nulls (entries_view es)
  retained-nulls f [] kept r = ap entries_view r
  retained-nulls f (e ∷ es) kept (b, w, f', rest, call, more, is) =
      let p = writes f e.0 e.1 b w f' call in
      ap entries_view (is ∙ ap (λ x. cond x ((e.0, w) ∷ rest) rest) p.0) ∙ ap₂ (entry (string_bytes e.0)) p.1 (retained-nulls f' es rest more)
