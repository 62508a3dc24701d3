use Rattle.std.proofs.Common.{sym, ◌∙◌, map}
use Rattle.tf_config_names.proofs.Tests.{below_here, below_more, seen_at, seen_within}
use Rattle.tf_config_names.specs.Properties.{property_view}
use Rattle.tf_config_names.proofs.properties.below.Goals as goal

pub loop-at-preserved : goal.loop-at-preserved
loop-at-preserved c =
    let all = c.args.body.now in
    let i = c.loop-at.at in
    below_more c.args.name.now (map property_view all) i (property_view c.index-body-at.result) (seen_within property_view all i c.loop-at-test.true)
    (seen_at property_view all i c.index-body-at.result c.loop-at-test.true c.index-body-at.is) (sym c.is_below.ensures ∙ c.if-not-is_below.false) c.loop-at.invariant

pub returns-then-not-is_below-clause-before : goal.returns-then-not-is_below-clause-before
returns-then-not-is_below-clause-before c =
    let all = c.args.body.now in
    let i = c.loop-at.at in
    below_here c.args.name.now (map property_view all) i (property_view c.index-body-at.result) (seen_within property_view all i c.loop-at-test.true)
    (seen_at property_view all i c.index-body-at.result c.loop-at-test.true c.index-body-at.is) (sym c.is_below.ensures ∙ c.if-not-is_below.true) c.loop-at.invariant
