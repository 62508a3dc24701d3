-- Which name of a configuration needs which, and which need themselves.
use Rattle.std.specs.Prelude.{◌≡◌, ◌<◌, ◌↔◌, ℕ, zero, suc, Bool, true, false, if◌then◌else◌, Option, None, Some, IsSome, List, [], ◌∷◌, ◌++◌, length, Contains}
use Rattle.std.specs.Cmp.Lexicographic.{slice_cmp}
use Rattle.std.specs.List.Sorted.{IsStrictlySortedBy}
use Rattle.std.specs.Ordering.{nat_cmp}
use Rattle.tf_config_data.specs.Names.{NameView, Meant, same_pair, place_of, refers_at, directly_before}
use Rattle.tf_graph.specs.Closure.{reaches}
use Rattle.tf_graph.specs.Digraph.{predecessors_of, successors_of}
use Rattle.tf_graph.specs.Order.{IsInOrder}
use Rattle.tf_graph.specs.Path.{Path}
use Rattle.tf_graph.specs.Solutions.{Ranked, StaysBelow}
use Rattle.tf_expr_syntax.specs.TemplateNames.{Pair}
use Rattle.tf_config_names.specs.Places.{found_in}
use Rattle.tf_config_names.specs.declared.dependence.Dependence.{Dependence}

-- the meaning of a name, or `None` if it isn't declared
abbrev pub meant_by : List NameView → Pair → Option Meant
meant_by [] pair = None
meant_by (n ∷ ns) pair = if same_pair n.name pair then Some n.meant else meant_by ns pair

-- The name a refers to b directly: an expression of a's meaning names b, in either branch of a conditional, or a's
-- `depends_on` lists b. And b is declared.
abbrev pub RefersTo : List NameView → Pair → Pair → Type 0
RefersTo names a b = Contains (refers_at (meant_by names a)) b × IsSome (place_of names b)

-- a name needs another if one or more such references lead to it, through locals as well as resources
abbrev pub Needs : List NameView → Pair → Pair → Type 0
Needs names a b = Path (RefersTo names) a b

-- `local.NAME` or `TYPE.NAME`
abbrev pub pair_text : Pair → List ℕ
pair_text pair = pair.0 ++ 46 ∷ pair.1

-- the name at a place, or two empty texts past the end
abbrev pub name_at : List NameView → ℕ → Pair
name_at [] k = ([], [])
name_at (n ∷ ns) zero = n.name
name_at (n ∷ ns) (suc k) = name_at ns k

-- the texts of the names that need themselves, each once and in byte order
pub record AreCyclic (names : List NameView) (texts : List (List ℕ)) : Type 0 where
  pub in_order : IsStrictlySortedBy (slice_cmp nat_cmp) texts
  pub found : (pair : Pair) → Needs names pair pair → Contains texts (pair_text pair)
  pub led : (text : List ℕ) → Contains texts text → (pair : Pair) × Needs names pair pair × (pair_text pair ≡ text)

-- a table of dependence has that the name at the first place needs the one at the other
abbrev pub needs_in : Dependence → ℕ → ℕ → Bool
needs_in d a b = reaches d.table b a

-- no name needs itself by a table of dependence
abbrev pub IsAcyclic : Dependence → Type 0
IsAcyclic d = (n : ℕ) → needs_in d n n ≡ false

-- the order of a table of dependence
abbrev pub order_in : Dependence → List ℕ
order_in d = d.order.items

-- what the name at a place refers to directly, by a table of dependence
abbrev pub before_in : Dependence → ℕ → List ℕ
before_in d n = predecessors_of d.graph n

-- some name refers directly to the one at a place
abbrev pub IsReferredTo : List NameView → ℕ → Type 0
IsReferredTo names b = (a : ℕ) × Contains (directly_before names a) b

abbrev pub is_filled : List ℕ → Bool
is_filled [] = false
is_filled (x ∷ xs) = true

-- some name refers directly to the one at a place, by a table of dependence
abbrev pub is_referred_to : Dependence → ℕ → Bool
is_referred_to d b = is_filled (successors_of d.graph b)

-- A table gives which of these names needs which, and the place of each. Need is transitive. The table's order has each
-- name at most once and after all that it refers to. If no name needs itself, the order has all names.
pub record IsDependence (names : List NameView) (d : Dependence) : Type 0 where
  pub places : (pair : Pair) → found_in d.places pair ≡ place_of names pair
  pub count : d.graph.nodes ≡ length names
  pub table : d.table.nodes ≡ length names
  pub before : (n : ℕ) → before_in d n ≡ directly_before names n
  pub needed : (p q : Pair) (a b : ℕ) → place_of names p ≡ Some a → place_of names q ≡ Some b → (needs_in d a b ≡ true) ↔ Needs names p q
  pub named : (a b : ℕ) → needs_in d a b ≡ true → (q : Pair) × (place_of names q ≡ Some b)
  pub direct : (a b : ℕ) → Contains (directly_before names a) b → needs_in d a b ≡ true
  pub transitive : (a b c : ℕ) → needs_in d a b ≡ true → needs_in d b c ≡ true → needs_in d a c ≡ true
  pub closed : (a b c : ℕ) → needs_in d a b ≡ true → Contains (directly_before names b) c → needs_in d a c ≡ true
  pub referred : (b : ℕ) → (is_referred_to d b ≡ true) ↔ IsReferredTo names b
  pub in_order : IsInOrder (directly_before names) (order_in d)
  pub within : (n : ℕ) → Contains (order_in d) n → n < length names
  pub whole : IsAcyclic d → (n : ℕ) → n < length names → Contains (order_in d) n
  pub ranked : IsAcyclic d → Ranked (directly_before names)
  pub stays : StaysBelow (length names) (directly_before names)
