use Rattle.std.proofs.Common.{◌≡◌, ◌∙◌, ℕ, List, ap, ap₂, sym, subst}
use Rattle.std.proofs.lemmas.Bool.{true≢false}
use Rattle.std.specs.List.{list_all}
use Rattle.tf_graph.specs.Digraph.{predecessors_of, sources_into}
use Rattle.tf_graph.specs.Order.{IsInOrder}
use Rattle.tf_provider.specs.Entries.{Log, actions_of, follows}
use Rattle.tf_provider.specs.declared.journal.Entry.{Entry}
use Rattle.tf_provider.proofs.Following.{follows-order, in_order, same-edges}
use Rattle.tf_provider.proofs.journal.Journal.follows.Goals as goal

pub returns-then-eq-clause-follows : goal.returns-then-eq-clause-follows
returns-then-eq-clause-follows c = λ _.
    let same = same-edges c.edges.result.now c.edges-2.result.now c.eq.result c.eq.ensures c.if-eq.true in
    let edges = sym c.edges.ensures.edges ∙ same ∙ c.edges-2.ensures.edges in
    let entries = ap (λ (log : Log). log.entries) c.self.view_is in
    let own = subst (λ (es : List Entry). IsInOrder (predecessors_of c.self.inside.graph) (actions_of es)) entries c.self.invariant.allowed in
    subst (λ (es : List (ℕ × ℕ)). IsInOrder (sources_into es) (actions_of c.args.self.now.entries)) edges own

pub returns-clause-follows : goal.returns-clause-follows
returns-clause-follows c = λ yes.
    let view = ap (λ (log : Log). log.entries) c.self.view_is in
    let own = subst (λ (es : List Entry). IsInOrder (predecessors_of c.self.inside.graph) (actions_of es)) view c.self.invariant.allowed in
    let same = ap₂ (λ (es : List Entry) (gs : List (ℕ × ℕ)). list_all (follows (actions_of es)) gs) (c.as_slice.ensures.value ∙ view) c.edges-3.ensures.edges in
    in_order c.args.graph.now (predecessors_of c.self.inside.graph) (actions_of c.args.self.now.entries) own (sym same ∙ sym c.follow_all.ensures ∙ yes)

pub returns-clause-differs : goal.returns-clause-differs
returns-clause-differs c = λ no order.
    let view = ap (λ (log : Log). log.entries) c.self.view_is in
    let same = ap₂ (λ (es : List Entry) (gs : List (ℕ × ℕ)). list_all (follows (actions_of es)) gs) (c.as_slice.ensures.value ∙ view) c.edges-3.ensures.edges in
    true≢false (sym (follows-order c.args.graph.now (actions_of c.args.self.now.entries) order) ∙ sym same ∙ sym c.follow_all.ensures ∙ no)
