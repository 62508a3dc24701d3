use Rattle.std.proofs.lemmas.Result.{err_from_is_err_and}
use Rattle.serde_json.specs.View.{view}
use Rattle.tf_config_json.proofs.LiteralFaults.{too_large, not_whole}
use Rattle.tf_config_json.proofs.Refusals.{Refuses-left}
use Rattle.tf_config_json.specs.Demand.{holds}
use Rattle.tf_config_json.specs.Parts.{number_checks}
use Rattle.tf_config_refusal.specs.Check.{demanded}
use Rattle.tf_config_refusal.specs.Place.{place_of}
use Rattle.tf_value_json.specs.Json.{tree_from}
use Rattle.tf_value_data.specs.Measure.{is_within}
use Rattle.tf_config_json.proofs.literals.read_literal.Goals as goal

pub returns-in_err-demand_numbers-clause-fault : goal.returns-in_err-demand_numbers-clause-fault
returns-in_err-demand_numbers-clause-fault c =
    let place = place_of c.args.path.now in
    let p = err_from_is_err_and c.from_residual.result c.from_residual.ensures.1 in
    rw (p.1, p.2) (Refuses-left (number_checks place (view c.args.json.now)) (demanded place (holds (is_within (tree_from (view c.args.json.now))))) _ c.in_err-demand_numbers.ensures)

pub returns-in-Err-TooLarge-clause-fault : goal.returns-in-Err-TooLarge-clause-fault
returns-in-Err-TooLarge-clause-fault c =
    too_large (place_of c.args.path.now) (view c.args.json.now) _ c.in_ok-demand_numbers.ensures (rw c.in-Err-TooLarge.field-0-is at c.in-Err-TooLarge.ensures.err) c.bad_shape.ensures

pub returns-in-Err-NotWhole-clause-fault : goal.returns-in-Err-NotWhole-clause-fault
returns-in-Err-NotWhole-clause-fault c = absurd (not_whole (place_of c.args.path.now) (view c.args.json.now) c.in_ok-demand_numbers.ensures (rw c.in-Err-NotWhole.field-0-is at c.in-Err-NotWhole.ensures.err))
