-- Places of names, and what holds along what stands directly before them.
use Rattle.std.proofs.Common.{◌≡◌, ◌<◌, ℕ, List, length, Option, Some, None, refl}
use Rattle.std.specs.List.{AllByRecursion}
use Rattle.tf_config_data.specs.Names.{NameView, meant_at, refers_at, place_of, places, directly_before}
use Rattle.tf_config_names.proofs.Edging.{place_of-below, places-below}
use Rattle.tf_expr_syntax.specs.TemplateNames.{Pair}
use Rattle.tf_graph.proofs.Solving.{all_by_weaker, solutions-related}
use Rattle.tf_graph.specs.Solutions.{Ranked, StaysBelow}

-- a place, where there is one, is below
abbrev pub IsPlaceBelow : ℕ → Option ℕ → Type 0
IsPlaceBelow count None = Unit {0}
IsPlaceBelow count (Some n) = n < count

-- the place of a name is one of the list
pub place_below : (names : List NameView) (pair : Pair) → IsPlaceBelow (length names) (place_of names pair)
place_below names pair = by_place (place_of names pair) (place_of-below names pair)
  where
    by_place : (place : Option ℕ) → ((n : ℕ) → place ≡ Some n → n < length names) → IsPlaceBelow (length names) place
    by_place None h = tt
    by_place (Some n) h = h n refl

-- what holds of each place of the list holds of the places of some names
pub all_places : (P : ℕ → Type 0) (names : List NameView) (pairs : List Pair) → ((n : ℕ) → n < length names → P n) → AllByRecursion P (places names pairs)
all_places P names pairs each = all_by_weaker (λ k. k < length names) P (places names pairs) each (places-below names pairs)

-- what stands directly before a name has a place of the list
pub names_stay : (names : List NameView) → StaysBelow (length names) (directly_before names)
names_stay names n h = places-below names (refers_at (meant_at names n))

-- what holds of a node where it holds of all that stands directly before it, holds of each node
pub along : (count : ℕ) (before : ℕ → List ℕ) (P : ℕ → Type 0) (ranked : Ranked before) → StaysBelow count before → ((n : ℕ) → n < count → AllByRecursion P (before n) → P n)
    → (n : ℕ) → n < count → P n
along count before P ranked stays step =
    solutions-related (λ n (a b : ℕ). P n) count before (λ n seen. 0) (λ n seen. 0) (λ n. 0) (λ n. 0) ranked stays (λ n h. refl) (λ n h. refl) step
