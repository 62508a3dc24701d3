use Rattle.std.proofs.Common.{[], ◌∷◌}
use Rattle.std.proofs.lemmas.Result.{err_from_is_err_and}
use Rattle.serde_json.specs.View.{view}
use Rattle.tf_config_json.proofs.PartFits.{literal_fits}
use Rattle.tf_config_refusal.proofs.Places.{place_of-Root, place_of-Member}
use Rattle.tf_config_json.proofs.values.read_given.Goals as goal

pub returns-in_err-value-clause-fault : goal.returns-in_err-value-clause-fault
returns-in_err-value-clause-fault c =
    let p = err_from_is_err_and c.from_residual.result c.from_residual.ensures.1 in
    rw (p.1, p.2) (rw (place_of-Member, place_of-Root) at c.in_err-value.ensures.fault)

pub returns-clause-literal : goal.returns-clause-literal
returns-clause-literal c = literal_fits.met (c.args.name.now ∷ []) (view c.args.json.now) _ c.in_ok-value.ensures.ok
