use Rattle.std.proofs.Common.{◌≡◌, ◌∙◌, All, Contains, MatchOption, ℕ, List, ap, subst}
use Rattle.tf_walk_workers.specs.Ideal.{IsGoodInEach}
use Rattle.tf_graph.specs.Digraph.{Digraph, predecessors_of}
use Rattle.tf_config_names.specs.Table.{names_in}
use Rattle.tf_walk_workers.proofs.Remembered.{good_too}
use Rattle.tf_walk_workers.proofs.steps.WorkerContext.not_good_before.Goals as goal

pub returns-then-holds_for : goal.returns-then-holds_for
returns-then-holds_for g c =
    let memo = rw c.in-Some.is at c.requires.memo in
    good_too g.N.WalkBrand.meanings g.N.WalkBrand.plan c.args.self.now.plan.now (names_in c.args.self.now.names.now) c.in-Some.memo.action c.args.action c.in-Some.memo.before
    (c.holds_for.ensures c.if-holds_for.true) memo.seen

pub returns : goal.returns
returns g c =
    let nodes : c.predecessors-before.result.now ≡ predecessors_of c.args.self.now.plan.now.order c.args.action =
    c.predecessors-before.ensures.nodes ∙ ap (λ (x : Digraph). predecessors_of x c.args.action) c.graph.ensures.graph in
    subst (λ (ns : List ℕ). MatchOption c.first_not_good.result (All (λ n. IsGoodInEach g.N.WalkBrand.meanings g.N.WalkBrand.plan n) ns) (λ bad. Contains ns bad)) nodes c.first_not_good.ensures
