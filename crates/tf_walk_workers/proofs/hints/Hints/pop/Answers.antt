use Rattle.tf_walk_workers.proofs.Rules.{takes, pops}
use Rattle.tf_walk_workers.proofs.hints.Hints.pop.Goals as goal

pub pop_as-requires-clause-fifo : goal.pop_as-requires-clause-fifo
pop_as-requires-clause-fifo g c = λ _. takes g.B.HintBound.bound _ tt 1

pub pop_as-requires-clause-lifo : goal.pop_as-requires-clause-lifo
pop_as-requires-clause-lifo g c = λ _. pops g.B.HintBound.bound _ tt
