use Rattle.std.proofs.Common.{sym, ap, ◌∙◌, subst}
use Rattle.tf_value_data.specs.Tree.{map, text, tree_of, entries_view, get}
use Rattle.tf_expr_operators.specs.Answer.{present_value}
use Rattle.tf_expr_operators.specs.Found.{FindsExactly}
use Rattle.tf_expr_operators.specs.Parts.{index_value}
use Rattle.tf_expr_operators.proofs.Trees.{tree_of-Text}
use Rattle.tf_expr_operators.proofs.found.in_map.Goals as goal

pub returns-in-Text : goal.returns-in-Text
returns-in-Text c =
    let es = entries_view c.args.entries.now.entries in
    let seen = ap tree_of c.in-Text.is ∙ tree_of-Text c.in-Text.key ∙ ap text (sym c.as_str.ensures.value) in
    subst (λ t. FindsExactly (index_value (map es) t) c.seen.result) (sym seen) (c.seen.ensures (present_value (get c.as_str.result.now es)) c.at_key.ensures)
