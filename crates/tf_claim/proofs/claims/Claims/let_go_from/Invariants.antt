-- the seat has let go of the edges passed, and the listener has heard of the last ones; each step is about the edge at its place
use Rattle.std.proofs.Common.{◌≡◌, take, slice_index}
use Rattle.tf_claim.specs.Told.{Frees}
use Rattle.tf_claim.specs.Views.{edges_from, went_all}
use Rattle.tf_claim.proofs.claims.Claims.let_go_from.Given as goal

abbrev pub ghosts-let_go_out_as : goal.ghosts-let_go_out_as
ghosts-let_go_out_as g a = record {
  graph = a.self.now.graph;
  number = slice_index (edges_from a.self.now.graph a.action) a.place;
}

abbrev pub invariant-loop-place : goal.invariant-loop-place
invariant-loop-place g l = record {
  table : l.seat.table ≡ l.fn.seat.table;
  went : l.seat.view ≡ went_all (take l.place (edges_from l.fn.self.graph l.fn.action)) l.fn.seat.view;
  heard : Frees l.fn.self.graph (take l.place (edges_from l.fn.self.graph l.fn.action)) l.fn.seat.view (g.L.Listener.heard l.listener);
}
