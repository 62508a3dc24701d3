use Rattle.std.proofs.Common.{◌≡◌, Ok, sym, ap, ◌∙◌, rules}
use Rattle.std.specs.Map.{values_of}
use Rattle.tf_value_data.specs.Tree.{list, items_view, tree_of}
use Rattle.tf_value_data.proofs.Views.{tree_of-List, tree_of-Map}
use Rattle.tf_expr_operators.specs.Functions.{values_value}
use Rattle.tf_expr_operators.proofs.Rows.{value_items-view}
use Rattle.tf_expr_operators.proofs.collections.values.Goals as goal

pub returns-in-Map : goal.returns-in-Map
returns-in-Map c =
    let seen = ap tree_of c.in-Map.is ∙ tree_of-Map c.in-Map.entries in
    let items = c.in_ok-collect-in-Map.field-0 in
    let e : items.items ≡ values_of c.in-Map.entries.entries = search rules in
    let found = value_items-view c.in-Map.entries.entries ∙ ap items_view (sym e) in
    ap values_value seen ∙ ap (λ ts. Ok (list ts)) found ∙ ap Ok (sym (tree_of-List items))
