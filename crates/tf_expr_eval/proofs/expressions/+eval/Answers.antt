use Rattle.std.proofs.Common.{◌≡◌, ◌≤◌, ℕ, List, Result, Ok, Err, length, map, drop, ap, ◌∙◌, rules}
use Rattle.std.proofs.lemmas.List.{append-nil, drop_all}
use Rattle.std.proofs.lemmas.Result.{err_from_is_err_and}
use Rattle.tf_value_data.specs.Tree.{tree_of as value_of}
use Rattle.tf_value_data.specs.declared.value.Value.{Value}
use Rattle.tf_expr_syntax.specs.ExprTree.{list, tree_of, trees_view}
use Rattle.tf_expr_syntax.specs.declared.expr.Expr.{Expr}
use Rattle.tf_expr_syntax.specs.declared.expr.Expr.{the_lemmas}
use Rattle.tf_expr_operators.specs.Answer.{Answer, Answers, Gives}
use Rattle.tf_expr_syntax.specs.declared.fault.EvalFault.{EvalFault}
use Rattle.tf_expr_syntax.specs.declared.fault.EvalFault.TheVariants.{OutOfMemory}
use Rattle.tf_expr_eval.specs.Environment.{Environment}
use Rattle.tf_expr_eval.specs.ExprMeaning.{meanings}
use Rattle.tf_expr_eval.proofs.Rows.{onto}
use Rattle.tf_expr_eval.proofs.Entries.{valued_more, valued_fails}
use Rattle.tf_expr_eval.proofs.expressions.+eval.Goals as goal

-- what is answered is given
gives : (a : Answer) (r : Result Value EvalFault) → Answers a r → Gives a r
gives a (Ok v) h = h
gives a (Err OutOfMemory) h = tt
gives a (Err _) h = h

-- nothing is left
all_valued : (env : Environment) (exprs : List Expr) (i : ℕ) (values : List Value) → length exprs ≤ i
    → meanings env (trees_view exprs) ≡ onto (map value_of values) (meanings env (trees_view (drop i exprs)))
    → meanings env (trees_view exprs) ≡ Ok (map value_of values)
all_valued env exprs i values past valued =
    valued ∙ ap (λ left. onto (map value_of values) (meanings env (trees_view left))) (drop_all i exprs past) ∙ ap Ok (append-nil (map value_of values))

pub eval_expr-returns-after-loop-part : goal.eval_expr-returns-after-loop-part
eval_expr-returns-after-loop-part g t c =
    let env = g.S.Scope.environment c.args.scope.now in
    let exprs : List Expr = c.deref-part-items.result.now in
    let seen : tree_of c.args.expr.now ≡ list (trees_view c.in-List.exprs.items) = ap tree_of c.in-List.is ∙ search (rules, the_lemmas) in
    let all = all_valued env exprs c.loop-part.part-index c.loop-part.values.items c.loop-part-test.false c.loop-part.invariant in
    rw (seen, ← c.deref-part-items.ensures.value, all) (gives _ c.list.result c.list.ensures)

pub eval_entries-returns-in_err-value : goal.eval_entries-returns-in_err-value
eval_entries-returns-in_err-value g t c =
    let p = err_from_is_err_and c.from_residual.result c.from_residual.ensures.1 in
    rw (p.1, p.2) (valued_fails (g.S.Scope.environment c.args.scope.now) c.args.entries.now.entries _ c.next.new.self (c.in-Some.key.now, c.in-Some.expr.now) _ c.in_err-value.field-0.0 c.in-Some.ensures.steps c.in_err-value.ensures c.loop-key.invariant)

pub eval_entries-loop-key-preserved : goal.eval_entries-loop-key-preserved
eval_entries-loop-key-preserved g t c =
    valued_more (g.S.Scope.environment c.args.scope.now) c.args.entries.now.entries _ c.next.new.self (c.in-Some.key.now, c.in-Some.expr.now) _ _ _ _ c.iter-key-items.ensures.ordered c.in-Some.ensures.steps c.in_ok-insert.ensures.entries c.in_ok-name.ensures.cases c.in_ok-value.ensures c.loop-key.invariant
