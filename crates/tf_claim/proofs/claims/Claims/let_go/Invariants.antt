-- the step is about this graph, and this edge
use Rattle.tf_claim.proofs.claims.Claims.let_go.Given as goal

abbrev pub ghosts-let_go_as : goal.ghosts-let_go_as
ghosts-let_go_as a = record { graph = a.self.now.graph; number = a.edge }
