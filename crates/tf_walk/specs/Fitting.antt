-- The results of all actions fit together.
use Rattle.std.specs.Prelude.{◌≡◌, ◌<◌, ℕ, not, List}
use Rattle.tf_walk_workers.specs.Laws.{is_skipped}
use Rattle.tf_graph.specs.Digraph.{Digraph, predecessors_of}
use Rattle.tf_graph.specs.Solutions.{seen_by}
use Rattle.tf_walk_action.specs.Outcome.{ActionResultView, all_good, done_at}

-- an action is skipped exactly if one directly before it isn't good
abbrev pub IsSkippedRightly : Digraph → List ActionResultView → ℕ → Type 0
IsSkippedRightly order done n = is_skipped (done_at done n) ≡ not (all_good (seen_by (done_at done) (predecessors_of order n)))

-- so is each action
abbrev pub AreSkippedRightly : Digraph → List ActionResultView → Type 0
AreSkippedRightly order done = (n : ℕ) → n < order.nodes → IsSkippedRightly order done n
