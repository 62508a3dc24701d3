-- each word that is no count is free, and each count so far is the number of edges into its action
use Rattle.std.proofs.Common.{◌≡◌, ◌<◌, ◌+◌, ◌*◌, ℕ, length}
use Rattle.tf_graph.specs.Digraph.{predecessors_of}
use Rattle.tf_claim.specs.Claims.{stage_in, count_in}
use Rattle.tf_claim.proofs.claims.first_words.Given as goal

abbrev pub invariant-loop-action : goal.invariant-loop-action
invariant-loop-action l = record {
  sized : length l.words.items ≡ l.graph.nodes * 8 + 1;
  all_free : (n : ℕ) → stage_in l.words.items n ≡ 0;
  counted : (n : ℕ) → n < l.action → count_in l.words.items n ≡ length (predecessors_of l.graph n);
}
