-- Limits that are checked twice.
use Rattle.std.proofs.Common.{◌≡◌, refl, ap, sym, ◌∙◌, Bool, true, false, Ok, Err, nat_le, subst}
use Rattle.std.proofs.lemmas.Bool.{leb-true}
use Rattle.tf_expr_syntax.specs.ExprTree as exprs
use Rattle.tf_expr_syntax.specs.TemplateTree as syntax
use Rattle.tf_value_data.specs.Tree.{Tree, items_of}
use Rattle.tf_value_data.specs.Tree as values
use Rattle.tf_value_data.specs.Measure.{weight, depth, max_weight, max_depth, IsWithinLimits}
use Rattle.tf_expr_operators.specs.Answer.{Answer, limited, list_value, map_value}
use Rattle.tf_expr_syntax.specs.Function.{function_named}
use Rattle.tf_expr_operators.specs.Operators.{unary_value}
use Rattle.tf_expr_operators.specs.Parts.{attribute_value}
use Rattle.tf_expr_syntax.specs.declared.fault.EvalFault.TheVariants.{TooLarge}
use Rattle.tf_expr_eval.specs.Environment.{Environment}
use Rattle.tf_expr_eval.specs.ExprMeaning as expr
use Rattle.tf_expr_eval.specs.Meaning.{and_then, between, called, count, meaning, meanings, woven}
use Rattle.tf_expr.specs.WithinLimits.{within_limits, TemplatesKeepLimits, ExpressionsKeepLimits}

kept_by : (fits_weight fits_depth : Bool) (t : Tree) → nat_le (weight t) max_weight ≡ fits_weight → nat_le (depth t) max_depth ≡ fits_depth → and_then (limited t) limited ≡ limited t
kept_by true true t p q =
    let e : limited t ≡ Ok t = rw (p, q) refl in
    ap (λ (a : Answer). and_then a limited) e
kept_by true false t p q =
    let e : limited t ≡ Err TooLarge = rw (p, q) refl in
    ap (λ (a : Answer). and_then a limited) e ∙ sym e
kept_by false b t p q =
    let e : limited t ≡ Err TooLarge = rw p refl in
    ap (λ (a : Answer). and_then a limited) e ∙ sym e

-- what is within the limits is so a second time
pub kept : (a : Answer) → and_then (and_then a limited) limited ≡ and_then a limited
kept (Ok t) = kept_by (nat_le (weight t) max_weight) (nat_le (depth t) max_depth) t refl refl
kept (Err e) = refl

within_by : (fits_weight fits_depth : Bool) (t v : Tree) → nat_le (weight t) max_weight ≡ fits_weight → nat_le (depth t) max_depth ≡ fits_depth → limited t ≡ Ok v → IsWithinLimits v
within_by true true t v p q e =
    let found : limited t ≡ Ok t = rw (p, q) refl in
    let same : t ≡ v = (cc) in
    subst IsWithinLimits same (leb-true (weight t) max_weight p, leb-true (depth t) max_depth q)
within_by true false t v p q e = let found : limited t ≡ Err TooLarge = rw (p, q) refl in absurd (cc)
within_by false b t v p q e = let found : limited t ≡ Err TooLarge = rw p refl in absurd (cc)

-- what is answered is within the limits
pub is_within : (a : Answer) (v : Tree) → and_then a limited ≡ Ok v → IsWithinLimits v
is_within (Ok t) v e = within_by (nat_le (weight t) max_weight) (nat_le (depth t) max_depth) t v refl refl e
is_within (Err f) v e = absurd (cc)

mutual
  same : (env : Environment) (t : syntax.Tree) → meaning (within_limits env) t ≡ meaning env t
  same env (syntax.number n) = refl
  same env (syntax.truth b) = refl
  same env syntax.null = refl
  same env (syntax.quoted ps last) = ap (λ r. and_then r (λ valued. woven valued last)) (same_between env ps)
  same env (syntax.reference a b) = kept (env a b)
  same env (syntax.call name ts) = ap (called (function_named name) (count ts)) (same_among env ts)
  same env (syntax.group t) = same env t
  same env (syntax.listed ts) = ap (λ r. and_then r (λ vs. list_value (items_of vs))) (same_among env ts)
  same env (syntax.attribute t name) = ap (λ r. and_then r (λ v. attribute_value v name)) (same env t)
  same env (syntax.index t i) = rw (same env t, same env i) refl
  same env (syntax.unary op t) = ap (λ r. and_then r (λ v. unary_value op v)) (same env t)
  same env (syntax.binary op a b) = rw (same env a, same env b) refl
  same env (syntax.conditional c a b) = rw (same env c, same env a, same env b) refl

  same_among : (env : Environment) (ts : syntax.Trees) → meanings (within_limits env) ts ≡ meanings env ts
  same_among env syntax.no_trees = refl
  same_among env (syntax.tree t ts) = rw (same env t, same_among env ts) refl

  same_between : (env : Environment) (ps : syntax.Parts) → between (within_limits env) ps ≡ between env ps
  same_between env syntax.no_parts = refl
  same_between env (syntax.part before t ps) = rw (same env t, same_between env ps) refl

pub templates_same : TemplatesKeepLimits
templates_same env template = ap (λ r. and_then r (λ valued. woven valued template.1)) (same_between env template.0)

mutual
  pub expressions_same : ExpressionsKeepLimits
  expressions_same env exprs.null = refl
  expressions_same env (exprs.boolean b) = refl
  expressions_same env (exprs.whole z) = refl
  expressions_same env (exprs.template w) = templates_same env w
  expressions_same env (exprs.list ts) = ap (λ r. and_then r (λ vs. list_value (values.items_of vs))) (expressions_same_among env ts)
  expressions_same env (exprs.map es) = ap (λ r. and_then r (λ vs. map_value vs)) (expressions_same_below env es)

  expressions_same_among : (env : Environment) (ts : exprs.Trees) → expr.meanings (within_limits env) ts ≡ expr.meanings env ts
  expressions_same_among env exprs.no_trees = refl
  expressions_same_among env (exprs.tree t ts) = rw (expressions_same env t, expressions_same_among env ts) refl

  expressions_same_below : (env : Environment) (es : exprs.Entries) → expr.below (within_limits env) es ≡ expr.below env es
  expressions_same_below env exprs.no_entries = refl
  expressions_same_below env (exprs.entry k t es) = rw (expressions_same env t, expressions_same_below env es) refl
