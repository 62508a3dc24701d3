use Rattle.tf_walk_workers.proofs.Rules.{takes}
use Rattle.tf_walk_workers.proofs.hints.HintStealer.steal.Goals as goal

pub steal_as-requires-clause-takes : goal.steal_as-requires-clause-takes
steal_as-requires-clause-takes g c = takes g.B.HintBound.bound _ tt 1
