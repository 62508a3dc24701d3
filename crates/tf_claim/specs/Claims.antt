-- The rule of the shared claims: what holds at every moment of the actions' stages and counts and of all seats'
-- views. A dropped seat keeps its view, and a joined one leaves an empty view.
use Rattle.std.specs.Prelude.{◌≡◌, ◌<◌, ◌≤◌, ◌+◌, ◌-◌, ◌*◌, ◌^◌, ◌==◌, ◌&&◌, ℕ, zero, suc, Bool, List, [], ◌∷◌, length, slice_index, if◌then◌else◌, min}
use mathlib.Core.Option.{some}
use lib.ListN.{get_elem?}
use Rattle.atomic_table.specs.Table.{State}
use Rattle.atomic_table.specs.Seated.{TableId}
use Rattle.tf_graph.specs.Digraph.{Digraph, source, target, predecessors_of}
use Rattle.tf_claim.specs.declared.seat.View.{View}
use Rattle.tf_claim.specs.Views.{times, nothing, part_in}

-- which claims these are, and the graph of their actions
pub record Shared : Type 0 where
  pub table : TableId
  pub graph : Digraph

-- the three stages of an action, as its word says them
abbrev pub free : ℕ
free = 0

abbrev pub taken : ℕ
taken = 1

abbrev pub done : ℕ
done = 2

-- a number of each view, added up over all seats
abbrev pub total : (View → ℕ) → List View → ℕ
total f [] = 0
total f (v ∷ vs) = f v + total f vs

-- how often a view has claimed or finished an action, or released an edge
abbrev pub claims_of : ℕ → View → ℕ
claims_of n v = times n v.claimed

abbrev pub ends_of : ℕ → View → ℕ
ends_of n v = times n v.finished

abbrev pub releases_of : ℕ → View → ℕ
releases_of e v = times e v.let_go

-- how many of the numbers below a bound pass a test
abbrev pub how_many : (ℕ → Bool) → ℕ → ℕ
how_many p zero = 0
how_many p (suc i) = (if p i then 1 else 0) + how_many p i

-- the part of a view, in 2^scale-ths of the whole
abbrev pub parts_in : ℕ → View → ℕ
parts_in scale v = part_in scale v.part

-- an edge leads into an action, and no seat has released it
abbrev pub holds_back : Digraph → ℕ → List View → ℕ → Bool
holds_back g n views e = (total (releases_of e) views == 0) && (target g e == n)

-- the number of edges into an action that no seat has released
abbrev pub waiting : Digraph → ℕ → List View → ℕ
waiting g n views = how_many (holds_back g n views) (length g.edges)

-- some seat has released each edge into an action
abbrev pub IsLetThrough : Digraph → ℕ → List View → Type 0
IsLetThrough g n views =
    (e : ℕ) → e < length g.edges → target g e ≡ n → 0 < total (releases_of e) views

-- What a view records is true. The seat finished only what it claimed. What it has seen is done, and what it has
-- known is taken or done. It released only edges whose source it finished.
pub record IsTrueOf (g : Digraph) (stage : ℕ → ℕ) (v : View) : Type 0 where
  pub own : (n : ℕ) → times n v.finished ≤ times n v.claimed
  pub seen : (n : ℕ) → 0 < times n v.seen → stage n ≡ done
  pub known : (n : ℕ) → 0 < times n v.known → free < stage n
  pub let_go : (e : ℕ) → times e v.let_go ≤ times (source g e) v.finished
  pub edges : (e : ℕ) → length g.edges ≤ e → times e v.let_go ≡ 0

-- The rule. Each action is free, taken or done, and a number that isn't an action is free. No seat has claimed a free
-- action. Exactly one seat has claimed any other action, once. The seat that claimed a done action finished it, once,
-- and no seat has finished any other. Every action before a taken or done one is done. An action's count is the
-- number of edges into it that no seat has released. What each view records is true, so an edge is released at most
-- once, as its source is finished once. Each edge into an action is released if the action is taken or done, or if a
-- seat has found it let through. The parts of all seats add up to at most the whole, and a seat without a part has
-- seen and done nothing.
pub record IsKept (g : Digraph) (stage count : ℕ → ℕ) (views : List View) : Type 0 where
  pub stages : (n : ℕ) → stage n ≤ done
  pub outside : (n : ℕ) → g.nodes ≤ n → stage n ≡ free
  pub claimed : (n : ℕ) → total (claims_of n) views ≡ min 1 (stage n)
  pub finished : (n : ℕ) → total (ends_of n) views ≡ stage n - 1
  pub before : (e : ℕ) → e < length g.edges → free < stage (target g e) → stage (source g e) ≡ done
  pub counts : (n : ℕ) → n < g.nodes → count n ≡ waiting g n views
  pub each : (k : ℕ) (v : View) → get_elem? views k ≡ some v → IsTrueOf g stage v
  pub released : (n : ℕ) → free < stage n → IsLetThrough g n views
  pub let_through : (k : ℕ) (v : View) → get_elem? views k ≡ some v → (n : ℕ) → 0 < times n v.let_through → IsLetThrough g n views
  pub parts : (scale : ℕ) → total (parts_in scale) views ≤ 2 ^ scale
  pub spent : (k : ℕ) (v : View) → get_elem? views k ≡ some v → v.part ≡ [] → v ≡ nothing

-- the rule holds, and one of the seats has this view
pub record Stands (g : Digraph) (v : View) : Type 0 where
  pub stage : ℕ → ℕ
  pub count : ℕ → ℕ
  pub views : List View
  pub seat : ℕ
  pub rule : IsKept g stage count views
  pub at : get_elem? views seat ≡ some v

-- Where the words lie: eight words for each action, the first its stage and the second its count, and one more word
-- at the end.
abbrev pub stage_in : List ℕ → ℕ → ℕ
stage_in words n = slice_index words (n * 8)

abbrev pub count_in : List ℕ → ℕ → ℕ
count_in words n = slice_index words (n * 8 + 1)

-- what the table keeps: the number of words, and the rule
pub record Holds (g : Digraph) (s : State (Unit {0}) View) : Type 0 where
  pub sized : length s.words ≡ g.nodes * 8 + 1
  pub rule : IsKept g (stage_in s.words) (count_in s.words) s.views

-- the words before any action is claimed
pub record Begins (g : Digraph) (words : List ℕ) : Type 0 where
  pub sized : length words ≡ g.nodes * 8 + 1
  pub all_free : (n : ℕ) → stage_in words n ≡ free
  pub counted : (n : ℕ) → n < g.nodes → count_in words n ≡ length (predecessors_of g n)

-- few enough actions and edges that a number of steps fits in a word
pub record IsSmall (g : Digraph) : Type 0 where
  pub nodes : g.nodes ≤ 8000
  pub edges : length g.edges < 2 ^ 60
