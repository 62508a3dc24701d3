-- The count of hidden attributes, and its line.
use Rattle.std.proofs.Common.{◌≡◌, ◌≤◌, ◌+◌, ◌-◌, ℕ, suc, Bool, true, false, not, List, [], ◌∷◌, ◌++◌, codes, String, Global, string_bytes, length, refl, ap, subst, arith}
use Rattle.std.specs.Int.{from_bool}
use Rattle.std.specs.Prelude.{◌==◌, if◌then◌else◌, Option}
use Rattle.std.proofs.lemmas.Bool.{ne_eqb}
use Rattle.tf_plan_diff.specs.Diff.{hidden_count, hidden_line, hidden_words, is_hidden, old_at}
use Rattle.tf_plan_diff.specs.Safe.{line}
use Rattle.tf_value_data.specs.Tree.{Tree, entries_view, tree_of}
use Rattle.tf_value_data.proofs.Views.{Entry}

one_at_most : (b : Bool) → (if b then 1 else 0) ≤ 1
one_at_most true = omega arith
one_at_most false = omega arith

hidden_le : (before : Option Tree) (es : List Entry) → hidden_count before (entries_view es) ≤ length es
hidden_le before [] = omega arith
hidden_le before (e ∷ es) = omega (arith, hidden_le before es, one_at_most (is_hidden (old_at before (string_bytes e.0)) (tree_of e.1)))

down_by : (b : Bool) (n count total h len : ℕ) → n ≡ from_bool (not b) → h ≤ len → count + ((if b then 1 else 0) + h) ≡ total + suc len → (n ≤ count) × ((count - n) + h ≡ total + len)
down_by true n count total h len gives le is = (omega (arith, gives, le, is), omega (arith, gives, le, is))
down_by false n count total h len gives le is = (omega (arith, gives, le, is), omega (arith, gives, le, is))

-- one attribute less is left
pub hidden_step : (before : Option Tree) (left rest : List Entry) (e : Entry) (n count total : ℕ) → left ≡ e ∷ rest → n ≡ from_bool (not (is_hidden (old_at before (string_bytes e.0)) (tree_of e.1)))
    → count + hidden_count before (entries_view left) ≡ total + length left → (n ≤ count) × ((count - n) + hidden_count before (entries_view rest) ≡ total + length rest)
hidden_step before left rest e n count total is gives h =
    down_by (is_hidden (old_at before (string_bytes e.0)) (tree_of e.1)) n count total (hidden_count before (entries_view rest)) (length rest) gives (hidden_le before rest)
    (subst (λ es. count + hidden_count before (entries_view es) ≡ total + length es) is h)

pub one_hidden : (n : ℕ) → n ≡ 1 → hidden_line n ≡ line (codes "    # (1 unchanged attribute hidden)")
one_hidden n e = ap hidden_line e

by_tests : (zero_test one_test : Bool) (a b c : List ℕ) → zero_test ≡ false → one_test ≡ false → (if zero_test then a else (if one_test then b else c)) ≡ c
by_tests zero_test one_test a b c e f = rw (e, f) refl

pub several_hidden : (n : ℕ) → (n ≡ 0 → ⊥) → (n ≡ 1 → ⊥) → hidden_line n ≡ line (hidden_words n)
several_hidden n some more = by_tests (n == 0) (n == 1) [] (line (codes "    # (1 unchanged attribute hidden)")) (line (hidden_words n)) (ne_eqb n 0 some) (ne_eqb n 1 more)
