use Rattle.std.proofs.Common.{◌≡◌, ◌++◌, [], sym, ap, ◌∙◌}
use Rattle.tf_config_data.specs.Names.{places}
use Rattle.tf_config_names.proofs.Tables.{Adds, adds_more, adds_all}
use Rattle.tf_config_names.specs.Table.{names_in}
use Rattle.tf_expr_syntax.specs.ExprNames.{named_below, named_by}
use Rattle.tf_expr_syntax.specs.ExprTree.{entries_view, tree_of}
use Rattle.tf_plan_planner.proofs.wanted.places_in_outputs.Goals as goal

pub loop-expr-preserved : goal.loop-expr-preserved
loop-expr-preserved c =
    let names = names_in c.args.names.now in
    let left = rw c.in-Some.ensures.steps at c.loop-expr.invariant in
    let more : c.as_slice.result.now ≡ places names (named_by (tree_of c.in-Some.expr.now)) = c.as_slice.ensures.value ∙ c.in_ok-more.ensures in
    adds_more names [] (named_below (entries_view c.args.outputs.now.entries)) c.loop-expr.found.items c.extend_from_slice.new.self.items
    (named_by (tree_of c.in-Some.expr.now)) (named_below (entries_view c.next.new.self)) left (c.in_ok-extend_from_slice.ensures.items ∙ ap (λ xs. c.loop-expr.found.items ++ xs) more)

pub returns : goal.returns
returns c =
    let names = names_in c.args.names.now in
    let all = named_below (entries_view c.args.outputs.now.entries) in
    let found = c.loop-expr.found.items in
    let none : Adds names [] all found [] = ap (λ es. found ++ places names (named_below (entries_view es))) (sym c.in-None.ensures.steps.0) ∙ c.loop-expr.invariant in
    adds_all names [] all found none
