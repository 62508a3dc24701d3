use Rattle.std.proofs.Common.{◌≡◌, ◌++◌, ◌+◌, ◌∷◌, [], false, true, set, replicate, ◌∙◌, arith}
use Rattle.std.specs.Prelude.{slice_index}
use Rattle.std.proofs.lemmas.List.{nil_from_length}
use Rattle.std.proofs.lemmas.List.Elements.{Contains-push}
use Rattle.tf_graph.specs.Digraph.{successors_of, predecessors_of}
use Rattle.tf_graph.specs.Removal.{IsRemoval, times, count_left}
use Rattle.tf_graph.proofs.Removals.{free-left, removal-skip, removal-go, removal-done, taken-none, taken-go}
use Rattle.tf_graph.proofs.strip.take_all.Goals as goal

pub index-requires : goal.index-requires
index-requires c =
    let l = c.loop-node in
    let r : IsRemoval c.args.graph.now l.left.items l.removal.remaining.items (c.pop.new.self.items ++ c.in-Some.node ∷ []) [] = rw (← c.in-Some.ensures.items) l.invariant.removal in
    omega (arith, (r.free_zero c.in-Some.node (Contains-push c.pop.new.self.items c.in-Some.node)).0, r.left_length)

pub release-requires-clause-enough : goal.release-requires-clause-enough
release-requires-clause-enough c =
    let g = c.args.graph.now in
    let l = c.loop-node in
    let node = c.in-Some.node in
    let r : IsRemoval g l.left.items l.removal.remaining.items (c.pop.new.self.items ++ node ∷ []) [] = rw (← c.in-Some.ensures.items) l.invariant.removal in
    let next : IsRemoval g (set l.left.items node false) l.removal.remaining.items c.pop.new.self.items (successors_of g node) =
    removal-go g l.left.items l.removal.remaining.items c.pop.new.self.items node c.nodes.ensures.within r (free-left g l.left.items l.removal.remaining.items c.pop.new.self.items node _ r c.index.ensures ∙ c.if-not-index.false) in
    λ s.
    let counted : slice_index l.removal.remaining.items s ≡ count_left (set l.left.items node false) (predecessors_of g s) + times s (successors_of g node) = next.counts s in
    omega arith

pub loop-node-init : goal.loop-node-init
loop-node-init c =
    let marks : c.in_ok-left.left.items ≡ replicate c.args.graph.now.nodes true = rw (← c.nodes.ensures.count) (c.in_ok-left.ensures.items_if_clones_equal (λ y e. e)) in
    record { removal = rw marks c.in_ok-removal.ensures; taken = rw (marks, c.in_ok-order.ensures.items) (taken-none c.args.graph.now) }

pub loop-node-preserved : goal.loop-node-preserved
loop-node-preserved c =
    let l = c.loop-node in
    let g = c.args.graph.now in
    let r : IsRemoval g l.left.items l.removal.remaining.items (c.pop.new.self.items ++ c.in-Some.node ∷ []) [] = rw (← c.in-Some.ensures.items) l.invariant.removal in
    let is = free-left g l.left.items l.removal.remaining.items c.pop.new.self.items c.in-Some.node _ r c.index.ensures ∙ c.if-not-index.false in
    record {
      removal = c.in_ok-release.ensures.removal (set l.left.items c.in-Some.node false) (removal-go g l.left.items l.removal.remaining.items c.pop.new.self.items c.in-Some.node c.nodes.ensures.within r is);
      taken = rw c.in_ok-push.ensures.items (taken-go g l.left.items l.removal.remaining.items c.pop.new.self.items c.in-Some.node l.order.items c.nodes.ensures.within r is l.invariant.taken);
    }

pub loop-node-preserved-then-not-index : goal.loop-node-preserved-then-not-index
loop-node-preserved-then-not-index c =
    let l = c.loop-node in
    let r : IsRemoval c.args.graph.now l.left.items l.removal.remaining.items (c.pop.new.self.items ++ c.in-Some.node ∷ []) [] = rw (← c.in-Some.ensures.items) l.invariant.removal in
    record {
      removal = removal-skip c.args.graph.now l.left.items l.removal.remaining.items c.pop.new.self.items c.in-Some.node r
          (free-left c.args.graph.now l.left.items l.removal.remaining.items c.pop.new.self.items c.in-Some.node _ r c.index.ensures ∙ c.if-not-index.true);
      taken = l.invariant.taken;
    }

pub returns-clause-left : goal.returns-clause-left
returns-clause-left c =
    let l = c.loop-node in
    let none : l.removal.free.items ≡ [] = nil_from_length l.removal.free.items (omega (arith, c.in_default.ensures.cases.0)) in
    removal-done c.args.graph.now l.left.items l.removal.remaining.items (rw none at l.invariant.removal)
