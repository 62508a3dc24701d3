use Rattle.std.proofs.lemmas.Result.{err_from_is_err_and}
use Rattle.serde_json.specs.View.{view}
use Rattle.tf_config_json.proofs.Refusals.{Refuses-expression}
use Rattle.tf_expr_json.specs.Reading.{expr_checks}
use Rattle.tf_config_refusal.specs.Place.{place_of}
use Rattle.tf_config_json.proofs.literals.read_expression.Goals as goal

pub returns-in_err-expr : goal.returns-in_err-expr
returns-in_err-expr c =
    let p = err_from_is_err_and c.from_residual.result c.from_residual.ensures.1 in
    rw (p.1, p.2) (Refuses-expression (expr_checks (place_of c.args.part.now.path.now) (view c.args.part.now.value.now)) _ c.in_err-expr.ensures.fault)
