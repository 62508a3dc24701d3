-- the load is about this graph
use Rattle.tf_claim.proofs.claims.Claims.join_seat.Given as goal

abbrev pub ghosts-join_seat_as : goal.ghosts-join_seat_as
ghosts-join_seat_as a = record { graph = a.self.now.graph; number = 0 }
