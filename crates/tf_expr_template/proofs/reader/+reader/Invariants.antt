use Rattle.std.proofs.Common.{◌+◌, ◌-◌, ◌*◌, length}
use Rattle.tf_expr_template.proofs.Growing.{Climbed}
use Rattle.tf_expr_template.proofs.Rowing.{Rowed}
use Rattle.tf_expr_template.proofs.Weaving.{Weaves}
use Rattle.tf_expr_template.proofs.reader.+reader.Given as goal

abbrev pub decreases-expression : goal.decreases-expression
decreases-expression l = 4 * l.budget + 2

abbrev pub decreases-list : goal.decreases-list
decreases-list l = 4 * l.budget + 3

abbrev pub decreases-name : goal.decreases-name
decreases-name l = 4 * l.budget

abbrev pub decreases-operand : goal.decreases-operand
decreases-operand l = 4 * l.budget + 1

abbrev pub decreases-operator : goal.decreases-operator
decreases-operator l = 4 * l.budget + 1

abbrev pub decreases-template : goal.decreases-template
decreases-template l = 4 * l.budget + 3

abbrev pub invariant-expression-loop-alloc : goal.invariant-expression-loop-alloc
invariant-expression-loop-alloc l = Climbed l.least l.budget l.fn.text l.left

abbrev pub decreases-expression-loop-alloc : goal.decreases-expression-loop-alloc
decreases-expression-loop-alloc l = l.budget - l.left.depth

abbrev pub invariant-list-loop-rest : goal.invariant-list-loop-rest
invariant-list-loop-rest l = Rowed l.bracket l.budget l.fn.text l.terms.items l.depth l.rest.text.now

abbrev pub decreases-list-loop-rest : goal.decreases-list-loop-rest
decreases-list-loop-rest l = length l.rest.text.now

abbrev pub invariant-template-loop-parts : goal.invariant-template-loop-parts
invariant-template-loop-parts l = Weaves l.within l.budget l.fn.text l.parts.items l.depth l.rest.text.now

abbrev pub decreases-template-loop-parts : goal.decreases-template-loop-parts
decreases-template-loop-parts l = length l.rest.text.now
