use Rattle.tf_plan_diff.proofs.FewHidden.{one_hidden, several_hidden}
use Rattle.tf_plan_diff.proofs.attributes.show_hidden.Goals as goal

pub returns-then-count-eq1 : goal.returns-then-count-eq1
returns-then-count-eq1 c = rw (one_hidden c.args.count c.if-count-eq1.true) c.push_line.ensures

pub returns : goal.returns
returns c = rw (several_hidden c.args.count c.if-count-eq0.false c.if-count-eq1.false) c.show_several.ensures
