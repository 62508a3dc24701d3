-- the step is about this graph, and this action
use Rattle.tf_claim.proofs.claims.Claims.claim.Given as goal

abbrev pub ghosts-claim_as : goal.ghosts-claim_as
ghosts-claim_as a = record { graph = a.self.now.graph; number = a.action }
