use Rattle.std.proofs.Common.{ap}
use Rattle.tf_value_data.specs.Tree.{items_of, items_view}
use Rattle.tf_expr_operators.specs.Answer.{list_value}
use Rattle.tf_expr_operators.specs.Found.{found_items}
use Rattle.tf_expr_operators.proofs.Faults.{Gives-equal}
use Rattle.tf_expr_operators.proofs.found.list_of.Goals as goal

pub returns : goal.returns
returns c =
    let all = found_items c.args.items.items in
    let same = ap (λ ts. list_value (items_of ts)) c.in_ok-items.ensures in
    c.made.ensures.or_no_memory (list_value all) (Gives-equal (list_value (items_view c.in_ok-items.items.items)) (list_value all) c.list.result same c.list.ensures)
