-- Two plans of one configuration: records are given the same dependencies by both.
use Rattle.std.proofs.Common.{◌≡◌, ◌∙◌, ℕ, Bool, true, false, cond, List, [], ◌∷◌, Some, filter, fold, length, refl, sym, ap}
use Rattle.std.specs.List.{range_with_len}
use Rattle.tf_walk_buffers.specs.Dependencies as additions
use Rattle.tf_config_data.specs.Names.{NameView, meant_at, place_of}
use Rattle.tf_config_names.specs.Needs.{IsDependence, needs_in}
use Rattle.tf_config_names.specs.declared.dependence.Dependence.{Dependence}
use Rattle.tf_plan_planner.proofs.Tied.{needs_same}
use Rattle.tf_expr_syntax.specs.TemplateNames.{Pair}

filter_same : (p q : ℕ → Bool) (xs : List ℕ) → ((x : ℕ) → p x ≡ q x) → filter p xs ≡ filter q xs
filter_same p q [] h = refl
filter_same p q (x ∷ xs) h = by_test (p x) (q x) (h x) (filter_same p q xs h)
  where
    by_test : (a b : Bool) → a ≡ b → filter p xs ≡ filter q xs → cond a (x ∷ filter p xs) (filter p xs) ≡ cond b (x ∷ filter q xs) (filter q xs)
    by_test true true e again = ap (λ (ys : List ℕ). x ∷ ys) again
    by_test false false e again = again
    by_test true false e again = absurd (cc)
    by_test false true e again = absurd (cc)

-- the dependencies that the records of a block's objects are given are determined
pub dependencies_same : (names : List NameView) (d e : Dependence) (needs others : ℕ → ℕ → Bool) → IsDependence names d → IsDependence names e → needs ≡ needs_in d → others ≡ needs_in e
    → (p : Pair) (n : ℕ) → place_of names p ≡ Some n → additions.dependencies needs names n ≡ additions.dependencies others names n
dependencies_same names d e needs others is also own other p n at =
    ap (λ (f : ℕ → ℕ → Bool). additions.dependencies f names n) own
    ∙ ap (λ (ms : List ℕ). fold (λ found m. additions.with_address (additions.address_of (meant_at names m)) found) [] ms)
    (filter_same (needs_in d n) (needs_in e n) (range_with_len 0 (length names)) (needs_same names d e is also p n at))
    ∙ sym (ap (λ (f : ℕ → ℕ → Bool). additions.dependencies f names n) other)
