use Rattle.std.proofs.Common.{sym, ◌∙◌}
use Rattle.tf_config_names.proofs.Tests.{map_insert}
use Rattle.tf_config_names.specs.Properties.{property_view, value_view}
use Rattle.tf_config_names.proofs.properties.put.Goals as goal

pub returns : goal.returns
returns c =
    let body = c.args.body.now.items in
    let before = rw c.as_slice.ensures.value at (c.below-at.ensures.before (value_view c.args.property.value)) in
    rw c.in_ok-insert.ensures.items (map_insert property_view body c.below-at.result c.args.property ∙ sym before)
