use Rattle.tf_plan_decision.proofs.Along.{row_other}
use Rattle.tf_plan_decision.proofs.whole.take_row.Goals as goal

pub returns-clause-others : goal.returns-clause-others
returns-clause-others c = λ n h. row_other c.args.rows.now.items c.args.place n c.replace.new.dest h
