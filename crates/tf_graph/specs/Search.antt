-- A search for the nodes that a node reaches, which reuses the rows of known nodes.
use Rattle.std.specs.Prelude.{◌≡◌, ◌<◌, ◌+◌, ◌⊎◌, ℕ, zero, suc, Bool, true, false, cond, List, [], length, slice_index_or, Contains}
use Rattle.std.specs.List.{All}
use Rattle.tf_graph.specs.Digraph.{Digraph}
use Rattle.tf_graph.specs.Path.{HasEdge, Reaches}
use Rattle.tf_graph.specs.NodeSet.{has}

-- the set of a node, and the empty one past the end
abbrev pub row_of : List (List Bool) → ℕ → List Bool
row_of rows node = slice_index_or rows node []

-- how many of the first nodes are not members
unfoldable pub missing : List Bool → ℕ → ℕ
missing set zero = 0
missing set (suc n) = cond (has set n) 0 1 + missing set n

-- each row has a bit for each node
abbrev pub AreLong : ℕ → List (List Bool) → Type 0
AreLong nodes rows = (k : ℕ) → k < length rows → length (row_of rows k) ≡ nodes

-- the rows of the known nodes hold exactly what these reach
pub record AreKnown (g : Digraph) (rows : List (List Bool)) (known : List Bool) : Type 0 where
  pub found : (a b : ℕ) → has known a ≡ true → Reaches g a b → has (row_of rows a) b ≡ true
  pub led : (a b : ℕ) → has known a ≡ true → has (row_of rows a) b ≡ true → Reaches g a b

-- what is known of a graph: a row for each node, and the known nodes, whose rows hold exactly what these reach. The
-- rows of the others are empty.
pub record IsTold (g : Digraph) (rows : List (List Bool)) (known : List Bool) : Type 0 where
  pub count : length rows ≡ g.nodes
  pub long : AreLong g.nodes rows
  pub known_length : length known ≡ g.nodes
  pub rows_known : AreKnown g rows known
  pub blank : (a b : ℕ) → has known a ≡ false → has (row_of rows a) b ≡ false

-- the sets of a search have a bit for each node
pub record IsWide (nodes : ℕ) (row settled : List Bool) : Type 0 where
  pub row_length : length row ≡ nodes
  pub settled_length : length settled ≡ nodes

-- a search from a node, in progress: the row holds only nodes that the start reaches. A settled node is a member,
-- with all that it reaches. Each reached node is pending, or settled, or its successors are members.
pub record IsSearch (g : Digraph) (start : ℕ) (row settled : List Bool) (pending : List ℕ) : Type 0 where
  pub led : (k : ℕ) → has row k ≡ true → Reaches g start k
  pub due : (k : ℕ) → Contains pending k → (k ≡ start) ⊎ (has row k ≡ true)
  pub inside : (k : ℕ) → has settled k ≡ true → has row k ≡ true
  pub closed : (k t : ℕ) → has settled k ≡ true → HasEdge g k t → has settled t ≡ true
  pub spread : (k : ℕ) → ((k ≡ start) ⊎ (has row k ≡ true)) → Contains pending k ⊎ ((has settled k ≡ true) ⊎ ((t : ℕ) → HasEdge g k t → has row t ≡ true))

-- the nodes of a walk are nodes of the graph
pub record IsWalk (nodes : ℕ) (seen : List Bool) (places path order : List ℕ) : Type 0 where
  pub seen_length : length seen ≡ nodes
  pub places_length : length places ≡ nodes
  pub path_within : All (λ k. k < nodes) path
  pub order_within : All (λ k. k < nodes) order
