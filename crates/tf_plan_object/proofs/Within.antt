-- What is planned is within the limits, and there is no set in it.
use Rattle.std.proofs.Common.{◌≡◌, ◌≤◌, ℕ, true, List, length, refl, ap, ◌∙◌, arith}
use Rattle.std.proofs.lemmas.Bool.{le-leb}
use Rattle.std.specs.Cmp.Lexicographic.{slice_cmp}
use Rattle.std.specs.Ordering.{nat_cmp, match_ordering}
use Rattle.std.specs.declared.cmp.Ordering.{Ordering}
use Rattle.std.specs.declared.cmp.Ordering.TheVariants.{Less, Equal, Greater}
use Rattle.tf_value_data.proofs.Conjunction.{and-first, and-second, and-both}
use Rattle.tf_value_data.proofs.WithLists.{lists-planned}
use Rattle.tf_value_data.specs.Sets.{with_lists}
use Rattle.tf_value_data.specs.Measure.{IsWithinLimits, is_within}
use Rattle.tf_value_data.specs.Stored.{may_be_planned}
use Rattle.tf_value_data.specs.Tree.{Tree, text, Entries, no_entries, entry, put}
use Rattle.tf_plan_object.specs.Bounded.{each_may_be_planned}

-- the test of what is within the limits answers so
pub within_test : (t : Tree) → IsWithinLimits t → is_within t ≡ true
within_test t h = let w = le-leb _ _ h.0 in let d = le-leb _ _ h.1 in rw (w, d) refl

-- a text within the limits may be planned, such as one of twenty bytes
pub text_planned : (s : List ℕ) → is_within (text s) ≡ true → may_be_planned (text s) ≡ true
text_planned s h = and-both (is_within (text s)) true h refl

pub short_planned : (s : List ℕ) → length s ≤ 20 → may_be_planned (text s) ≡ true
short_planned s h = text_planned s (within_test (text s) (omega (arith, h), omega (arith)))

-- and a value with lists for its sets
pub lists_planned : (t u : Tree) → u ≡ with_lists t → is_within t ≡ true → may_be_planned u ≡ true
lists_planned t u e h = ap may_be_planned e ∙ lists-planned t h

put_at : (o : Ordering) (k l : List ℕ) (t u : Tree) (es : Entries) → may_be_planned t ≡ true → each_may_be_planned (entry l u es) ≡ true → each_may_be_planned (put k t es) ≡ true
    → each_may_be_planned (match_ordering o (entry k t (entry l u es)) (entry l t es) (entry l u (put k t es))) ≡ true
put_at Less k l t u es h g more = and-both (may_be_planned t) (each_may_be_planned (entry l u es)) h g
put_at Equal k l t u es h g more = and-both (may_be_planned t) (each_may_be_planned es) h (and-second (may_be_planned u) (each_may_be_planned es) g)
put_at Greater k l t u es h g more = and-both (may_be_planned u) (each_may_be_planned (put k t es)) (and-first (may_be_planned u) (each_may_be_planned es) g) more

-- a value that may be planned, put among such values
pub put_within : (k : List ℕ) (t : Tree) (es : Entries) → may_be_planned t ≡ true → each_may_be_planned es ≡ true → each_may_be_planned (put k t es) ≡ true
put_within k t no_entries h g = and-both (may_be_planned t) true h refl
put_within k t (entry l u es) h g = put_at (slice_cmp nat_cmp k l) k l t u es h g (put_within k t es h (and-second (may_be_planned u) (each_may_be_planned es) g))
