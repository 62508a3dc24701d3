-- What a step knows of the claims and of the seat that it works on.
use Rattle.std.proofs.Common.{◌≡◌, ◌<◌, ◌^◌, sym, ap, ◌∙◌}
use Rattle.tf_graph.specs.Digraph.{Digraph}
use Rattle.tf_claim.specs.declared.seat.View.{View}
use Rattle.tf_claim.specs.Views.{Seated, steps_of}
use Rattle.tf_claim.specs.Claims.{IsSmall, Shared, Stands}
use Rattle.tf_claim.proofs.Words.{steps_fit}

-- claims and a seat as they lie in memory are those that a contract speaks of, the seat is one at these claims, and the
-- graph that the table keeps is theirs
pub record IsSeatedAt (lying claims : Shared) (held seat : Seated) (kept : Digraph) : Type 0 where
  pub table : held.table ≡ lying.table
  pub key : kept ≡ claims.graph
  pub nodes : lying.graph.nodes ≡ claims.graph.nodes
  pub key_nodes : kept.nodes ≡ claims.graph.nodes
  pub view : held.view ≡ seat.view

pub seated : (lying claims : Shared) (held seat : Seated) (kept : Digraph) → lying ≡ claims → held ≡ seat → kept ≡ lying.graph → seat.table ≡ claims.table → IsSeatedAt lying claims held seat kept
seated lying claims held seat kept now seen is same =
    let graph : kept ≡ claims.graph = is ∙ ap (λ (z : Shared). z.graph) now in
    record {
      table = ap (λ (z : Seated). z.table) seen ∙ same ∙ sym (ap (λ (z : Shared). z.table) now);
      key = graph;
      nodes = ap (λ (z : Shared). z.graph.nodes) now;
      key_nodes = ap (λ (z : Digraph). z.nodes) graph;
      view = ap (λ (z : Seated). z.view) seen;
    }

-- the steps of a seat fit a word, where its step is about the graph of the claims
pub steps_small : (lying claims : Shared) (graph : Digraph) (w : View) → lying ≡ claims → graph ≡ claims.graph → IsSmall lying.graph → Stands graph w → steps_of w < 2 ^ 62
steps_small lying claims graph w now about small stands = steps_fit graph lying.graph w (ap (λ (z : Shared). z.graph) now ∙ sym about) small stands
