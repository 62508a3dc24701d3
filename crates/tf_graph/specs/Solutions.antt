-- Recursion over a relation without cycles, stated as the unique solution of a rule. `before n` is the list of the
-- nodes directly before n.
use Rattle.std.specs.Prelude.{◌≡◌, ◌<◌, ◌&&◌, ℕ, Bool, true, false, not, List, map}
use Rattle.std.specs.List.{list_all, AllByRecursion}
use Rattle.tf_graph.specs.Path.{Path, StandsBefore}

-- what a rule sees directly before a node: each node there, with its result
abbrev pub seen_by : {R : Type 0} → (ℕ → R) → List ℕ → List (ℕ × R)
seen_by results nodes = map (λ a. (a, results a)) nodes

-- each node below the count has the result that the rule computes from what it sees directly before the node
abbrev pub Solves : {R : Type 0} → ℕ → (ℕ → List ℕ) → (ℕ → List (ℕ × R) → R) → (ℕ → R) → Type 0
Solves count before rule results = (n : ℕ) → n < count → results n ≡ rule n (seen_by results (before n))

-- some rank is lower for each node directly before a node than for that node
abbrev pub Ranked : (ℕ → List ℕ) → Type 0
Ranked before = (rank : ℕ → ℕ) × ((n : ℕ) → AllByRecursion (λ a. rank a < rank n) (before n))

-- the nodes directly before a node below the count are below it too
abbrev pub StaysBelow : ℕ → (ℕ → List ℕ) → Type 0
StaysBelow count before = (n : ℕ) → n < count → AllByRecursion (λ a. a < count) (before n)

-- a node is ready if it is not done and all nodes directly before it are
abbrev pub is_ready : (ℕ → List ℕ) → (ℕ → Bool) → ℕ → Bool
is_ready before done n = not (done n) && list_all done (before n)

-- two solutions of a rule have the same result at each node
abbrev pub SolutionIsUnique : Type 0 → Type 0
SolutionIsUnique R =
    (count : ℕ) (before : ℕ → List ℕ) (rule : ℕ → List (ℕ × R) → R) (results others : ℕ → R)
    → Ranked before → StaysBelow count before
    → Solves count before rule results → Solves count before rule others
    → (n : ℕ) → n < count → results n ≡ others n

-- If two rules make related results from related ones, their solutions are related at each node. With equality as the
-- relation, this says that two solutions of one rule are the same.
abbrev pub SolutionsAreRelated : (R S : Type 0) → (ℕ → R → S → Type 0) → Type 0
SolutionsAreRelated R S Related =
    (count : ℕ) (before : ℕ → List ℕ) (rule : ℕ → List (ℕ × R) → R) (other_rule : ℕ → List (ℕ × S) → S) (results : ℕ → R) (others : ℕ → S)
    → Ranked before → StaysBelow count before
    → Solves count before rule results → Solves count before other_rule others
    → ((n : ℕ) → n < count → AllByRecursion (λ a. Related a (results a) (others a)) (before n)
    → Related n (rule n (seen_by results (before n))) (other_rule n (seen_by others (before n))))
    → (n : ℕ) → n < count → Related n (results n) (others n)

-- each rule has a solution
abbrev pub SolutionExists : Type 0 → Type 0
SolutionExists R =
    (count : ℕ) (before : ℕ → List ℕ) (rule : ℕ → List (ℕ × R) → R)
    → Ranked before → (results : ℕ → R) × Solves count before rule results

-- if no node is ready, each is done
abbrev pub AllAreDone : Type 0
AllAreDone =
    (count : ℕ) (before : ℕ → List ℕ) (done : ℕ → Bool)
    → Ranked before → StaysBelow count before
    → ((n : ℕ) → n < count → is_ready before done n ≡ false)
    → (n : ℕ) → n < count → done n ≡ true

-- if there is a rank, no path leads back to its start
abbrev pub RankedHasNoCycle : Type 0
RankedHasNoCycle = (before : ℕ → List ℕ) → Ranked before → (n : ℕ) → Path (StandsBefore before) n n → ⊥

-- a test on the nodes below a count is a strict order that holds between each node and the nodes directly before it
pub record IsOrderOf (count : ℕ) (before : ℕ → List ℕ) (is_below : ℕ → ℕ → Bool) : Type 0 where
  pub irreflexive : (a : ℕ) → a < count → is_below a a ≡ false
  pub transitive : (a b c : ℕ) → a < count → b < count → is_below a b ≡ true → is_below b c ≡ true → is_below a c ≡ true
  pub holds : (n : ℕ) → AllByRecursion (λ a. (a < count) × (is_below a n ≡ true)) (before n)

-- such an order gives a rank
abbrev pub OrderedIsRanked : Type 0
OrderedIsRanked = (count : ℕ) (before : ℕ → List ℕ) (is_below : ℕ → ℕ → Bool) → IsOrderOf count before is_below → Ranked before
