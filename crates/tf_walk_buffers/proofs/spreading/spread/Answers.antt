use Rattle.tf_walk_buffers.proofs.Spread.{spread-more, spread-whole}
use Rattle.tf_graph.specs.Closure.{reaches}
use Rattle.tf_graph.specs.Lists.{row}
use Rattle.tf_graph.specs.NodeSet.{has}
use Rattle.std.specs.Prelude.{◌&&◌}
use Rattle.std.proofs.Common.{◌∙◌, ℕ, Bool, arith}
use Rattle.tf_walk_buffers.proofs.spreading.spread.Goals as goal

pub loop-next-preserved : goal.loop-next-preserved
loop-next-preserved c =
    let l = c.loop-next in
    let now = l.invariant in
    let both : ℕ → Bool = λ k. reaches c.args.table.now c.args.place k && has c.args.asked.now k in
    let more = spread-more both (row c.args.lists.now) (row l.lists) c.args.place l.from now.before now.after (row c.add.new.lists) c.in-Some.next c.in-Some.ensures.first c.in_ok-add.ensures.rows in
    record {
      within = omega (arith, c.in-Some.ensures.below);
      count = c.add.ensures.count ∙ now.count;
      before = more.0;
      after = more.1;
    }

pub returns-clause-rows : goal.returns-clause-rows
returns-clause-rows c =
    let l = c.loop-next in
    let both : ℕ → Bool = λ k. reaches c.args.table.now c.args.place k && has c.args.asked.now k in
    spread-whole both (row c.args.lists.now) (row l.lists) c.args.place l.from l.invariant.before l.invariant.after c.in_default.ensures.first
