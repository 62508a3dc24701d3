-- Tests of each node of a list, and what came of each.
use Rattle.std.proofs.Common.{◌≡◌, ℕ, zero, suc, Bool, true, ◌&&◌, List, [], ◌∷◌, map, Option, Some, None, option_map, refl, ap, ap₂}
use Rattle.std.specs.Prelude.{unwrap_or}
use Rattle.std.specs.List.{list_all, AllByRecursion}
use Rattle.tf_graph.proofs.Solving.{seen_by-same}
use Rattle.tf_graph.specs.Solutions.{seen_by}
use Rattle.tf_value_data.proofs.Conjunction.{and-first, and-second, and-both}
use Rattle.tf_walk_action.specs.ResultViews.{action_result_of, result_or_skipped, action_results_of}
use Rattle.tf_walk_action.specs.Outcome.{ActionResultView, skipped, is_good, all_good, done_at}
use Rattle.tf_walk_action.specs.declared.action_result.ActionResult.{ActionResult}
use Rattle.tf_walk_single.specs.Ends.{done_in}

-- all that is seen is good where each node's result is
pub all_good-seen : (results : ℕ → ActionResultView) (nodes : List ℕ) → all_good (seen_by results nodes) ≡ list_all (λ k. is_good (results k)) nodes
all_good-seen results [] = refl
all_good-seen results (n ∷ nodes) = ap (λ b. is_good (results n) && b) (all_good-seen results nodes)

-- a test that follows from another
pub list_all-weaker : (p q : ℕ → Bool) (nodes : List ℕ) → ((k : ℕ) → p k ≡ true → q k ≡ true) → list_all p nodes ≡ true → list_all q nodes ≡ true
list_all-weaker p q [] f h = refl
list_all-weaker p q (n ∷ nodes) f h =
    and-both (q n) (list_all q nodes) (f n (and-first (p n) (list_all p nodes) h)) (list_all-weaker p q nodes f (and-second (p n) (list_all p nodes) h))

-- two tests that agree
pub list_all-same : (p q : ℕ → Bool) (nodes : List ℕ) → ((k : ℕ) → p k ≡ q k) → list_all p nodes ≡ list_all q nodes
list_all-same p q [] f = refl
list_all-same p q (n ∷ nodes) f = ap₂ (λ a b. a && b) (f n) (list_all-same p q nodes f)

-- what a test gives of each node
pub all_by_test : (p : ℕ → Bool) (P : ℕ → Type 0) (nodes : List ℕ) → ((k : ℕ) → p k ≡ true → P k) → list_all p nodes ≡ true → AllByRecursion P nodes
all_by_test p P [] f h = tt
all_by_test p P (n ∷ nodes) f h = (f n (and-first (p n) (list_all p nodes) h), all_by_test p P nodes f (and-second (p n) (list_all p nodes) h))

one_done : (o : Option ActionResult) → result_or_skipped o ≡ unwrap_or (option_map action_result_of o) skipped
one_done None = refl
one_done (Some e) = refl

-- what the walk keeps is what it told of
pub dones-are : (results : List (Option ActionResult)) (n : ℕ) → done_at (action_results_of results) n ≡ done_in (map (option_map action_result_of) results) n
dones-are [] n = refl
dones-are (o ∷ results) zero = one_done o
dones-are (o ∷ results) (suc n) = dones-are results n

-- what holds of everything holds of each
pub all_of : {A : Type 0} (P : A → Type 0) (xs : List A) → ((x : A) → P x) → AllByRecursion P xs
all_of P [] f = tt
all_of P (x ∷ xs) f = (f x, all_of P xs f)

-- so a request sees of some actions what came of them
pub seen-are : (results : List (Option ActionResult)) (nodes : List ℕ) → seen_by (done_at (action_results_of results)) nodes ≡ seen_by (done_in (map (option_map action_result_of) results)) nodes
seen-are results nodes =
    seen_by-same (done_at (action_results_of results)) (done_in (map (option_map action_result_of) results)) nodes
    (all_of (λ m. done_at (action_results_of results) m ≡ done_in (map (option_map action_result_of) results) m) nodes (dones-are results))
