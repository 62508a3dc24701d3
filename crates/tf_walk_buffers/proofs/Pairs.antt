-- Numbers below a count that pass a test, one after another.
use Rattle.std.proofs.Common.{◌≡◌, ◌∙◌, ◌+◌, ℕ, Bool, true, false, cond, [], ◌∷◌, ◌++◌, filter, Option, Some, None, refl, ap}
use Rattle.std.proofs.lemmas.List.Elements.{filter-append, filter_map-append}
use Rattle.std.specs.List.{cons_option, filter_map, range_with_len}
use Rattle.std.specs.Option.{option_to_list}
use Rattle.tf_walk_buffers.proofs.Lists.{range-next}

filter-more : (test : ℕ → Bool) (n : ℕ) → filter test (range_with_len 0 (n + 1)) ≡ filter test (range_with_len 0 n) ++ cond (test n) (n ∷ []) []
filter-more test n = ap (filter test) (range-next n) ∙ filter-append test (range_with_len 0 n) (n ∷ [])

pub single : {A : Type 0} (o : Option A) → cons_option o [] ≡ option_to_list o
single None = refl
single (Some a) = refl

-- what is found for each of them
pub found-more : {A : Type 0} (f : ℕ → Option A) (test : ℕ → Bool) (n : ℕ)
    → filter_map f (filter test (range_with_len 0 (n + 1))) ≡ filter_map f (filter test (range_with_len 0 n)) ++ cond (test n) (option_to_list (f n)) []
found-more {A = A} f test n =
    ap (filter_map f) (filter-more test n) ∙ filter_map-append f (filter test (range_with_len 0 n)) (cond (test n) (n ∷ []) [])
    ∙ ap (λ xs. filter_map f (filter test (range_with_len 0 n)) ++ xs) (by_test (test n))
  where
    by_test : (yes : Bool) → filter_map f (cond yes (n ∷ []) []) ≡ cond yes (option_to_list (f n)) []
    by_test true = single (f n)
    by_test false = refl
