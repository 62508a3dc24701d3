use Rattle.std.proofs.Common.{option_map, sym, ap, ◌∙◌}
use Rattle.tf_value_data.specs.Tree.{tree_of}
use Rattle.tf_value_data.proofs.Views.{tree_of-lookup}
use Rattle.tf_expr_operators.specs.Answer.{present_value}
use Rattle.tf_expr_operators.proofs.parts.at_key.Goals as goal

pub returns-in-Some : goal.returns-in-Some
returns-in-Some c =
    let seen = ap (option_map tree_of) c.remove.ensures.value ∙ tree_of-lookup c.args.key.now c.args.entries.entries in
    ap present_value (sym seen ∙ ap (option_map tree_of) c.in-Some.is)

pub returns : goal.returns
returns c =
    let seen = ap (option_map tree_of) c.remove.ensures.value ∙ tree_of-lookup c.args.key.now c.args.entries.entries in
    ap present_value (sym seen ∙ ap (option_map tree_of) c.in-None.is)
