use Rattle.tf_expr_json.proofs.Faultless.{faulty_none, first_place}
use Rattle.tf_expr_json.specs.Reading.{expr_checks}
use Rattle.tf_expr_json.proofs.laws.faulty_trees_are_none.Goals as goal

pub returns-clause-none : goal.returns-clause-none
returns-clause-none c = faulty_none

pub returns-clause-place : goal.returns-clause-place
returns-clause-place c = λ place json. first_place (expr_checks place json)
