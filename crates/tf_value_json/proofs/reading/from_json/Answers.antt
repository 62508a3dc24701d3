use Rattle.std.proofs.Common.{◌≡◌, true, rules}
use Rattle.serde_json.specs.View.{view}
use Rattle.tf_value_json.specs.Json.{tree_from}
use Rattle.tf_value_data.specs.Known.{known}
use Rattle.tf_value_data.specs.Measure.{IsWithinLimits}
use Rattle.tf_value_data.specs.Tree.{tree_of}
use Rattle.tf_value_json.proofs.InOrder.{read_stored}
use Rattle.tf_value_json.proofs.reading.from_json.Goals as goal

pub returns-clause-stored : goal.returns-clause-stored
returns-clause-stored c =
    let d = view c.args.json.now in
    let t = tree_of c.in_ok-tree_from.field-0 in
    let whole : known (tree_from d) ≡ true = search rules in
    let within : IsWithinLimits t = search rules in
    read_stored d t c.in_ok-tree_from.ensures whole within c.measure_of-measure.ensures.sorted
