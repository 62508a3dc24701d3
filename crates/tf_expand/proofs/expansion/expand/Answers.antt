use Rattle.std.proofs.lemmas.Result.{err_from_is_err_and}
use Rattle.tf_expand.proofs.expansion.expand.Goals as goal

pub returns-in_err-shapes-clause-refused : goal.returns-in_err-shapes-clause-refused
returns-in_err-shapes-clause-refused c =
    let p = err_from_is_err_and c.from_residual-in_err-shapes.result c.from_residual-in_err-shapes.ensures.1 in
    rw (p.1, p.2) (rw (c.in_ok-names.ensures, c.configuration.view_is) at c.in_err-shapes.ensures.refused)
