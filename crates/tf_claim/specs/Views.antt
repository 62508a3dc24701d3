-- What a seat at the shared claims has seen and done, and how a step changes it.
use Rattle.std.specs.Prelude.{◌≡◌, ◌<◌, ◌+◌, ◌^◌, ◌==◌, ℕ, zero, suc, List, [], ◌∷◌, ◌++◌, length, map, if◌then◌else◌}
use Rattle.std.specs.List.{filter, enumerate_from}
use Rattle.atomic_table.specs.Seated.{TableId}
use Rattle.tf_graph.specs.Digraph.{Digraph, source, target, predecessors_of}
use Rattle.tf_claim.specs.declared.seat.View.{View}

-- which claims a seat belongs to, and its view
pub record Seated : Type 0 where
  pub table : TableId
  pub view : View

-- how often a number occurs in a list
abbrev pub times : ℕ → List ℕ → ℕ
times n [] = 0
times n (x ∷ xs) = (if x == n then 1 else 0) + times n xs

-- the view that is left when a seat was joined to another: it has seen and done nothing, and has no part
abbrev pub nothing : View
nothing = record { seen = []; known = []; let_through = []; claimed = []; finished = []; let_go = []; part = [] }

-- the first seat's view: it has seen and done nothing, and its part is the whole
abbrev pub first_view : View
first_view = record nothing { part = 0 ∷ [] }

-- a seat's view after another was split off: half of each piece of its part, and all that it has seen and done
abbrev pub halved : View → View
halved v = record v { part = map suc v.part }

-- the view of the seat that was split off: the other halves, and it has seen and done nothing
abbrev pub split_off : View → View
split_off v = record nothing { part = map suc v.part }

-- a 2^d-th of the whole, in 2^scale-ths; 0 if it is less than one of them
abbrev pub piece_in : ℕ → ℕ → ℕ
piece_in scale zero = 2 ^ scale
piece_in zero (suc d) = 0
piece_in (suc scale) (suc d) = piece_in scale d

-- a part in 2^scale-ths, its pieces added up
abbrev pub part_in : ℕ → List ℕ → ℕ
part_in scale [] = 0
part_in scale (d ∷ ds) = piece_in scale d + part_in scale ds

-- the seat's part is the whole
abbrev pub IsSole : View → Type 0
IsSole v = (scale : ℕ) × (part_in scale v.part ≡ 2 ^ scale)

-- the seat has found an action done
abbrev pub saw : ℕ → View → View
saw n v = record v { seen = n ∷ v.seen }

-- the seat has found an action taken or done
abbrev pub knew : ℕ → View → View
knew n v = record v { known = n ∷ v.known }

-- the seat has found each edge into an action released, and so each action directly before it done
abbrev pub saw_through : Digraph → ℕ → View → View
saw_through g n v =
    record v { seen = predecessors_of g n ++ v.seen; let_through = n ∷ v.let_through }

-- the seat has claimed an action
abbrev pub took : ℕ → View → View
took n v = record v { claimed = n ∷ v.claimed }

-- the seat has finished an action
abbrev pub ended : ℕ → View → View
ended n v = record v { seen = n ∷ v.seen; finished = n ∷ v.finished }

-- the seat has released an edge
abbrev pub went : ℕ → View → View
went e v = record v { let_go = e ∷ v.let_go }

-- the seat has released several edges, one after another
abbrev pub went_all : List ℕ → View → View
went_all [] v = v
went_all (e ∷ es) v = went_all es (went e v)

-- the indices of the edges out of an action, in the order of the graph's list
abbrev pub edges_from : Digraph → ℕ → List ℕ
edges_from g n = map (λ p. p.0) (filter (λ p. p.1.0 == n) (enumerate_from 0 g.edges))

-- the views of two seats, put together
abbrev pub both : View → View → View
both v w =
    record {
      seen = v.seen ++ w.seen;
      known = v.known ++ w.known;
      let_through = v.let_through ++ w.let_through;
      claimed = v.claimed ++ w.claimed;
      finished = v.finished ++ w.finished;
      let_go = v.let_go ++ w.let_go;
      part = v.part ++ w.part;
    }

-- the number of a seat's steps that changed something
abbrev pub steps_of : View → ℕ
steps_of v = length v.claimed + length v.finished + length v.let_go

-- the seat has claimed an action of the graph, and hasn't finished it
abbrev pub Owes : Digraph → ℕ → View → Type 0
Owes g n v = (n < g.nodes) × (0 < times n v.claimed) × (times n v.finished ≡ 0)

-- the seat may release an edge: it finished the edge's source, and hasn't released the edge
abbrev pub MayLetGo : Digraph → ℕ → View → Type 0
MayLetGo g e v = (e < length g.edges) × (0 < times (source g e) v.finished) × (times e v.let_go ≡ 0)

-- the seat has released every edge into an action
abbrev pub OwnsWayTo : Digraph → ℕ → View → Type 0
OwnsWayTo g n v = (e : ℕ) → e < length g.edges → target g e ≡ n → 0 < times e v.let_go

-- the seat has claimed and finished every action once, and released every edge once
pub record IsWhole (g : Digraph) (v : View) : Type 0 where
  pub claimed : (n : ℕ) → n < g.nodes → times n v.claimed ≡ 1
  pub finished : (n : ℕ) → n < g.nodes → times n v.finished ≡ 1
  pub let_go : (e : ℕ) → e < length g.edges → times e v.let_go ≡ 1
