-- The meaning of expressions.
use Rattle.std.specs.Prelude.{List, [], ◌∷◌, Result, Ok}
use Rattle.tf_value_data.specs.Tree as values
use Rattle.tf_expr_operators.specs.Answer.{Answer, list_value, map_value}
use Rattle.tf_expr_syntax.specs.declared.fault.EvalFault.{EvalFault}
use Rattle.tf_expr_eval.specs.Environment.{Environment}
use Rattle.tf_expr_eval.specs.Meaning.{and_then, template_meaning}
use Rattle.tf_expr_syntax.specs.ExprTree.{Tree, null, boolean, whole, template, list, map, Trees, no_trees, tree, Entries, no_entries, entry}

-- A scalar means itself, a text the value of its template. A list's elements are evaluated in order, a map's entries
-- in byte order of their names. The first fault is the answer.
abbrev mutual
  pub meaning : Environment → Tree → Answer
  meaning env null = Ok values.null
  meaning env (boolean b) = Ok (values.boolean b)
  meaning env (whole z) = Ok (values.whole z)
  meaning env (template w) = template_meaning env w
  meaning env (list ts) = and_then (meanings env ts) (λ vs. list_value (values.items_of vs))
  meaning env (map es) = and_then (below env es) (λ vs. map_value vs)

  pub meanings : Environment → Trees → Result (List values.Tree) EvalFault
  meanings env no_trees = Ok []
  meanings env (tree t ts) = and_then (meaning env t) (λ v. and_then (meanings env ts) (λ vs. Ok (v ∷ vs)))

  -- the values under their names
  pub below : Environment → Entries → Result values.Entries EvalFault
  below env no_entries = Ok values.no_entries
  below env (entry k t es) = and_then (meaning env t) (λ v. and_then (below env es) (λ vs. Ok (values.entry k v vs)))
