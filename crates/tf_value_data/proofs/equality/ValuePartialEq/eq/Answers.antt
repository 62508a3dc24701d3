use Rattle.tf_value_data.proofs.Order.{same_from, equal_both, differ_one}
use Rattle.tf_value_data.proofs.equality.ValuePartialEq.eq.Goals as goal

pub returns-then-refines-clause-exact : goal.returns-then-refines-clause-exact
returns-then-refines-clause-exact c = equal_both _ _ _ _ c.refines.ensures c.refines-then-refines.ensures c.if-refines.true

pub returns-then-refines-clause-value : goal.returns-then-refines-clause-value
returns-then-refines-clause-value c = same_from _ _ _ (equal_both _ _ _ _ c.refines.ensures c.refines-then-refines.ensures c.if-refines.true)

pub returns-else-refines-clause-exact : goal.returns-else-refines-clause-exact
returns-else-refines-clause-exact c = differ_one _ _ _ c.refines.ensures c.if-refines.false

pub returns-else-refines-clause-value : goal.returns-else-refines-clause-value
returns-else-refines-clause-value c = same_from _ _ _ (differ_one _ _ _ c.refines.ensures c.if-refines.false)
