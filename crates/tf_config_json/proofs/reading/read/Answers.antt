use Rattle.std.proofs.Common.{◌≤◌, length, arith}
use Rattle.std.proofs.lemmas.Result.{err_from_is_err_and}
use Rattle.serde_json.specs.View.{view}
use Rattle.tf_config_data.specs.Config.{config_of}
use Rattle.tf_config_json.proofs.BuiltSections.{text_built}
use Rattle.tf_config_json.proofs.RefusalLaws.{too_many}
use Rattle.tf_config_json.specs.Reading.{max_bytes}
use Rattle.tf_config_json.proofs.reading.read.Goals as goal

pub returns-in_err-demand_counts-clause-fault : goal.returns-in_err-demand_counts-clause-fault
returns-in_err-demand_counts-clause-fault c =
    let p = err_from_is_err_and c.from_residual-in_err-demand_counts.result c.from_residual-in_err-demand_counts.ensures.1 in
    let many = c.in_err-demand_counts.ensures.fault in
    let small : length c.args.bytes.now ≤ max_bytes = omega (arith, c.if-bytes-gt-MAX_BYTES.false) in
    rw (p.1, p.2) (too_many c.args.bytes.now (view c.in_ok-tree.tree) (config_of c.in_ok-config.config) _ small c.in_ok-tree.ensures.ok c.in_ok-config.ensures.ok many.0 many.1)

pub returns-clause-ok : goal.returns-clause-ok
returns-clause-ok c =
    let tree = view c.in_ok-tree.tree in
    (tree, c.in_ok-tree.ensures.ok, text_built c.args.bytes.now tree (config_of c.in_ok-config.config) c.in_ok-tree.ensures.ok c.in_ok-config.ensures.ok)
