use Rattle.tf_cli_program.proofs.applying.end_apply.Goals as goal

pub returns : goal.returns
returns g c = λ ms given before shown shows is. (c.keep_result-status.result.0, g.E.Write.contents c.keep_result-status.new.err, c.keep_result-status.ensures.ends ms given before shown shows is, c.from.ensures)
