use Rattle.std.proofs.Common.{◌≡◌, [], false, length, sym, ◌∙◌}
use Rattle.std.proofs.lemmas.Bool.{eqb-true}
use Rattle.std.proofs.lemmas.List.{nil_from_length}
use Rattle.tf_graph.specs.Digraph.{successors_of}
use Rattle.tf_graph.specs.NodeSet.{has}
use Rattle.tf_graph.proofs.Searches.{known-edgeless, or_none}
use Rattle.tf_graph.proofs.closure.fill.Goals as goal

pub returns-then-is_empty-clause-told : goal.returns-then-is_empty-clause-told
returns-then-is_empty-clause-told c =
    let a = c.args in
    let told = c.requires.told in
    let unknown : has a.known.now a.node ≡ false = sym c.contains.ensures ∙ c.if-contains.false in
    let none : successors_of a.graph.now a.node ≡ [] = sym c.successors.ensures.nodes ∙ nil_from_length c.successors.result.now (eqb-true (length c.successors.result.now) 0 (sym c.is_empty.ensures ∙ c.if-is_empty.true)) in
    record {
      count = told.count;
      long = told.long;
      known_length = c.insert.ensures.length ∙ told.known_length;
      rows_known = known-edgeless a.graph.now a.rows.now a.known.now c.insert.new.self a.node told.rows_known (λ b. told.blank a.node b unknown) none c.insert.ensures.members;
      blank = λ k b h. told.blank k b (or_none _ _ (sym (c.insert.ensures.members k) ∙ h));
    }
