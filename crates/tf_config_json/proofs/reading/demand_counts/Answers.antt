use Rattle.std.proofs.Common.{◌≡◌, ◌≤◌, ◌∙◌, ℕ, List, String, Global, length, sym, arith}
use Rattle.std.proofs.lemmas.Result.{err_from_is_err_and}
use Rattle.tf_config_json.proofs.Counts.{names_in-length, mapped-length}
use Rattle.tf_config_json.specs.Config.{names_in}
use Rattle.tf_config_json.specs.Reading.{max_declared}
use Rattle.tf_config_data.specs.Config.{variable_of, variables_of, block_of, blocks_of}
use Rattle.tf_expr_syntax.specs.ExprTree.{entries_view}
use Rattle.tf_expr_syntax.specs.declared.expr.Expr.{Expr}
use Rattle.tf_config_json.proofs.reading.demand_counts.Goals as goal

counted : (entries : List (String Global × Expr)) (n : ℕ) → n ≡ length entries → length (names_in (entries_view entries)) ≡ n
counted entries n is = names_in-length entries ∙ sym is

pub returns-in_err-demand_count-2-clause-fault : goal.returns-in_err-demand_count-2-clause-fault
returns-in_err-demand_count-2-clause-fault c =
    let p = err_from_is_err_and c.from_residual-in_err-demand_count-2.result c.from_residual-in_err-demand_count-2.ensures.1 in
    let many = c.in_err-demand_count-2.ensures.fault in
    rw (p.1, p.2) ((λ within. absurd (omega (arith, many.0, within.1, counted c.args.config.now.locals.entries _ c.len-2.ensures.len))), many.1)

pub returns-in_err-demand_count-3-clause-fault : goal.returns-in_err-demand_count-3-clause-fault
returns-in_err-demand_count-3-clause-fault c =
    let p = err_from_is_err_and c.from_residual-in_err-demand_count-3.result c.from_residual-in_err-demand_count-3.ensures.1 in
    let many = c.in_err-demand_count-3.ensures.fault in
    rw (p.1, p.2) ((λ within. absurd (omega (arith, many.0, within.2, counted c.args.config.now.outputs.entries _ c.len-3.ensures.len))), many.1)

pub returns-clause-ok : goal.returns-clause-ok
returns-clause-ok c =
    let counted1 : length (variables_of c.args.config.now.variables.entries) ≡ c.len.result = mapped-length variable_of c.args.config.now.variables.entries ∙ sym c.len.ensures.len in
    let few1 : length (variables_of c.args.config.now.variables.entries) ≤ max_declared = rw counted1 c.in_ok-demand_count.ensures.ok in
    let counted2 : length (names_in (entries_view c.args.config.now.locals.entries)) ≡ c.len-2.result = counted c.args.config.now.locals.entries _ c.len-2.ensures.len in
    let few2 : length (names_in (entries_view c.args.config.now.locals.entries)) ≤ max_declared = rw counted2 c.in_ok-demand_count-2.ensures.ok in
    let counted3 : length (names_in (entries_view c.args.config.now.outputs.entries)) ≡ c.len-3.result = counted c.args.config.now.outputs.entries _ c.len-3.ensures.len in
    let few3 : length (names_in (entries_view c.args.config.now.outputs.entries)) ≤ max_declared = rw counted3 c.in_ok-demand_count-3.ensures.ok in
    let counted4 : length (blocks_of c.args.config.now.resources.entries) ≡ c.len-4.result = mapped-length block_of c.args.config.now.resources.entries ∙ sym c.len-4.ensures.len in
    let few4 : length (blocks_of c.args.config.now.resources.entries) ≤ max_declared = rw counted4 c.in_ok-demand_count-4.ensures.ok in
    (few1, few2, few3, few4)
