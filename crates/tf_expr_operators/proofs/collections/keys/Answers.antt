use Rattle.std.proofs.Common.{Ok, sym, ap, ◌∙◌}
use Rattle.tf_value_data.specs.Tree.{list, tree_of}
use Rattle.tf_value_data.proofs.Views.{tree_of-List, tree_of-Map}
use Rattle.tf_expr_operators.specs.Functions.{keys_value}
use Rattle.tf_expr_operators.proofs.collections.keys.Goals as goal

pub returns-in_ok-key_texts-in-Map : goal.returns-in_ok-key_texts-in-Map
returns-in_ok-key_texts-in-Map c =
    let seen = ap tree_of c.in-Map.is ∙ tree_of-Map c.in-Map.entries in
    ap keys_value seen ∙ ap (λ ts. Ok (list ts)) (sym c.in_ok-key_texts-in-Map.ensures) ∙ ap Ok (sym (tree_of-List c.in_ok-key_texts-in-Map.field-0))
