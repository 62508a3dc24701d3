-- the step is about this graph, and this action
use Rattle.tf_claim.proofs.claims.Claims.see.Given as goal

abbrev pub ghosts-see_as : goal.ghosts-see_as
ghosts-see_as a = record { graph = a.self.now.graph; number = a.action }
