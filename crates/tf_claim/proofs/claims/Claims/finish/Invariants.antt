-- the step is about this graph, and this action
use Rattle.tf_claim.proofs.claims.Claims.finish.Given as goal

abbrev pub ghosts-finish_as : goal.ghosts-finish_as
ghosts-finish_as a = record { graph = a.self.now.graph; number = a.finished }
