use Rattle.tf_config_data.specs.Names.{meant_at}
use Rattle.tf_graph.specs.Lists.{row}
use Rattle.tf_graph.specs.NodeSet.{has}
use Rattle.tf_config_names.specs.Needs.{needs_in}
use Rattle.tf_config_names.specs.Table.{names_in}
use Rattle.tf_walk_buffers.proofs.Listed.{found-added}
use Rattle.tf_walk_buffers.specs.Dependencies.{address_of}
use Rattle.tf_walk_buffers.proofs.needed.note_needed.Goals as goal

pub returns-in_ok-spread-in-Resource-clause-added : goal.returns-in_ok-spread-in-Resource-clause-added
returns-in_ok-spread-in-Resource-clause-added c =
    λ p asked. found-added (λ m. address_of (meant_at (names_in c.args.names.now) m)) (row c.args.lists.now p) (row c.spread.new.lists p) (needs_in c.args.dependence.now p c.args.place) (has c.args.asked.now p) c.args.place
    (rw c.table.ensures at (c.in_ok-spread-in-Resource.ensures.rows p)) asked
