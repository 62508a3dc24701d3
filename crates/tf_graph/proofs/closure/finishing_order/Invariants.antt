use Rattle.tf_graph.specs.Search.{IsWalk}
use Rattle.tf_graph.proofs.closure.finishing_order.Given as goal

abbrev pub invariant-loop-root : goal.invariant-loop-root
invariant-loop-root l = IsWalk l.nodes l.walk.seen l.walk.places.items l.walk.path.items l.walk.order.items

abbrev pub invariant-loop : goal.invariant-loop
invariant-loop l = IsWalk l.nodes l.walk.seen l.walk.places.items l.walk.path.items l.walk.order.items
