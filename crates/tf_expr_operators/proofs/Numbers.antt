-- Whole numbers as indices.
use Rattle.std.proofs.Common.{◌≡◌, ℕ, ℤ, pos, negsuc, List, None, refl, sym, ap, arith}
use Rattle.std.specs.Prelude.{unsigned_abs, FitsSigned}
use Rattle.std.specs.Int.{w64, FitsUnsignedBits}
use Rattle.tf_value_data.specs.Tree.{items_view}
use Rattle.tf_value_data.specs.declared.value.Value.{Value}
use Rattle.tf_expr_operators.specs.Parts.{item_at, item_at_whole}

-- a whole number that is an index
pub item_at_whole-index : (z : ℤ) (i : ℕ) (vs : List Value) → FitsUnsignedBits 64 z → i ≡ unsigned_abs z → item_at_whole z (items_view vs) ≡ item_at i (items_view vs)
item_at_whole-index (pos n) i vs fits e = ap (λ k. item_at k (items_view vs)) (sym e)
item_at_whole-index (negsuc n) i vs fits e = absurd fits

-- a whole number that is none
pub item_at_whole-none : (z : ℤ) (vs : List Value) → FitsSigned w64 z → (FitsUnsignedBits 64 z → ⊥) → item_at_whole z (items_view vs) ≡ None
item_at_whole-none (pos n) vs held n1 = absurd (n1 (omega (arith, held.sfits)))
item_at_whole-none (negsuc n) vs held n1 = refl
