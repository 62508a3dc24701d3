use Rattle.std.proofs.Common.{◌≡◌, ◌∙◌, length, map, sym, subst, ap}
use Rattle.tf_graph.specs.Digraph.{sources_into}
use Rattle.tf_config_names.proofs.Dependences.{dependence}
use Rattle.tf_config_names.proofs.Edging.{AreWithin}
use Rattle.tf_config_names.specs.Declaration.{declaration_of}
use Rattle.tf_config_names.specs.Needs.{IsDependence}
use Rattle.tf_config_names.specs.declared.dependence.Dependence.{Dependence}
use Rattle.tf_config_names.proofs.dependence.Dependence.new.Goals as goal

pub returns : goal.returns
returns c =
    let names = map declaration_of c.in_ok-entries.entries.items in
    let d : Dependence = record { graph = c.in_ok-graph.graph; order = c.in_ok-order.order; table = c.in_ok-table.table; places = c.in_ok-places.places } in
    let count : d.graph.nodes ≡ length names = c.in_ok-graph.ensures.0 ∙ c.in_ok-nodes.ensures.count in
    let edges : d.graph.edges ≡ c.in_ok-nodes.edges.items = c.in_ok-graph.ensures.1 in
    let placed = rw c.as_slice.ensures.value at c.in_ok-places.ensures in
    subst (λ ns. IsDependence ns d) c.in_ok-entries.ensures
    (dependence names d placed count (subst (AreWithin (length names)) (sym edges) c.in_ok-nodes.ensures.within)
    (λ n. ap (λ es. sources_into es n) edges ∙ c.in_ok-nodes.ensures.before n) c.in_ok-order.ensures c.in_ok-table.ensures)
