-- A book of claims: the stage of each action of a graph, and which actions may be claimed.
use Rattle.std.specs.Prelude.{◌≡◌, ℕ, Bool, true, false, ◌&&◌, List, length, slice_index_or, slice_set}
use Rattle.std.specs.List.{list_all}
use Rattle.tf_graph.specs.Digraph.{Digraph, predecessors_of}
use Rattle.tf_claim.specs.declared.book.Stage.{Stage}
use Rattle.tf_claim.specs.declared.book.Stage.TheVariants.{Free, Taken, Done}

-- a graph of actions, and the stage of each action
pub record Ledger : Type 0 where
  pub graph : Digraph
  pub stages : List Stage

-- the stage of an action; a number that isn't an action of the graph is free
abbrev pub stage_in : List Stage → ℕ → Stage
stage_in stages n = slice_index_or stages n Free

abbrev pub is_free : Stage → Bool
is_free Free = true
is_free _ = false

abbrev pub is_taken : Stage → Bool
is_taken Taken = true
is_taken _ = false

abbrev pub is_done : Stage → Bool
is_done Done = true
is_done _ = false

-- every action directly before this one is done
abbrev pub is_ready : Ledger → ℕ → Bool
is_ready l n = list_all (λ m. is_done (stage_in l.stages m)) (predecessors_of l.graph n)

-- an action may be claimed if it is free and every action directly before it is done
abbrev pub is_claimable : Ledger → ℕ → Bool
is_claimable l n = is_free (stage_in l.stages n) && is_ready l n

-- the same book, with one action moved to another stage
abbrev pub moved : Ledger → ℕ → Stage → Ledger
moved l n stage = record { graph = l.graph; stages = slice_set l.stages n stage }

-- What a book keeps: a stage for each action of the graph, and every action directly before a taken or done one is
-- done.
pub record IsKept (l : Ledger) : Type 0 where
  pub sized : length l.stages ≡ l.graph.nodes
  pub ordered : (n : ℕ) → is_free (stage_in l.stages n) ≡ false → is_ready l n ≡ true
