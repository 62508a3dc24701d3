use Rattle.std.proofs.Common.{◌≡◌, ◌++◌, ◌∷◌, [], arith, ◌∙◌, sym, inl}
use Rattle.std.proofs.lemmas.List.{nil_from_length}
use Rattle.tf_graph.specs.Search.{IsSearch}
use Rattle.tf_graph.proofs.Searches.{pending_inside, pending-less, search-found}
use Rattle.tf_graph.proofs.closure.reached_from.Goals as goal

pub contains-requires : goal.contains-requires
contains-requires c =
    let a = c.args in
    let l = c.loop-next in
    let s : IsSearch a.told.now.graph.now a.node l.search.row l.search.settled (c.pop.new.self.items ++ c.in-Some.next ∷ []) = rw (← c.in-Some.ensures.items) l.invariant.search in
    omega (arith, pending_inside a.told.now.graph.now a.node c.in-Some.next l.search.row l.search.settled c.pop.new.self.items s c.requires.node l.invariant.wide.row_length, l.invariant.wide.settled_length)

pub visit-requires-clause-node : goal.visit-requires-clause-node
visit-requires-clause-node c =
    let a = c.args in
    let l = c.loop-next in
    let s : IsSearch a.told.now.graph.now a.node l.search.row l.search.settled (c.pop.new.self.items ++ c.in-Some.next ∷ []) = rw (← c.in-Some.ensures.items) l.invariant.search in
    pending_inside a.told.now.graph.now a.node c.in-Some.next l.search.row l.search.settled c.pop.new.self.items s c.requires.node l.invariant.wide.row_length

pub loop-next-preserved : goal.loop-next-preserved
loop-next-preserved c =
    let a = c.args in
    let l = c.loop-next in
    let s : IsSearch a.told.now.graph.now a.node l.search.row l.search.settled (c.pop.new.self.items ++ c.in-Some.next ∷ []) = rw (← c.in-Some.ensures.items) l.invariant.search in
    record {
      wide = l.invariant.wide;
      search = pending-less a.told.now.graph.now a.node c.in-Some.next l.search.row l.search.settled c.pop.new.self.items (inl (sym c.contains.ensures ∙ c.if-not-contains.false)) s;
    }

pub returns-clause-found : goal.returns-clause-found
returns-clause-found c =
    let a = c.args in
    let l = c.loop-next in
    let none : l.search.pending.items ≡ [] = nil_from_length l.search.pending.items (omega (arith, c.in_default.ensures.cases.0)) in
    search-found a.told.now.graph.now a.node l.search.row l.search.settled (rw (← none) l.invariant.search)
