use Rattle.std.proofs.Common.{ℕ, List, sym, ap, subst}
use Rattle.tf_graph.specs.Digraph.{Digraph}
use Rattle.tf_claim.specs.Claims.{Begins}
use Rattle.tf_claim.specs.Plays.{Sat}
use Rattle.tf_claim.proofs.Apart as apart
use Rattle.tf_claim.proofs.Words as words
use Rattle.tf_claim.proofs.claims.Claims.new.Goals as goal

pub of_words-requires : goal.of_words-requires
of_words-requires c =
    let P : Digraph × List ℕ → Type 0 = λ z. Begins z.0 z.1 in
    words.begins _ _ (subst P (λ i. (sym c.in_ok-graph.ensures i, sym c.as_slice.ensures.value i)) c.in_ok-words.ensures)

pub returns-clause-fresh : goal.returns-clause-fresh
returns-clause-fresh c =
    apart.fresh c.in_ok-graph.graph c.in_ok-table.place.me.0 (ap (λ (m : Sat). m.0) c.in_ok-table.ensures.4)
