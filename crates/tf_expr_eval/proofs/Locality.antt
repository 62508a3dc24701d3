-- What an expression names decides what it means, from part to part.
use Rattle.std.proofs.Common.{◌≡◌, refl, ap, List, [], ◌∷◌, ◌++◌}
use Rattle.std.specs.List.{AllByRecursion}
use Rattle.tf_expr_syntax.specs.ExprNames as names
use Rattle.tf_expr_syntax.specs.ExprTree as exprs
use Rattle.tf_expr_syntax.specs.TemplateNames.{Pair, named_by, named_among, named_between}
use Rattle.tf_expr_syntax.specs.TemplateTree as syntax
use Rattle.tf_value_data.specs.Tree.{items_of}
use Rattle.tf_value_data.specs.Tree as values
use Rattle.tf_expr_operators.specs.Answer.{limited, list_value, map_value}
use Rattle.tf_expr_syntax.specs.Function.{function_named}
use Rattle.tf_expr_operators.specs.Operators.{unary_value, binary_value}
use Rattle.tf_expr_operators.specs.Parts.{attribute_value, index_value}
use Rattle.tf_expr_eval.specs.Environment.{Environment}
use Rattle.tf_expr_eval.specs.ExprMeaning as expr
use Rattle.tf_expr_eval.specs.Locality.{AgreeOn, TemplatesAreLocal, ExpressionsAreLocal}
use Rattle.tf_expr_eval.specs.Meaning.{and_then, between, called, choice, chosen, count, meaning, meanings, woven}

-- what holds of each of two lists' elements
pub both_halves : {A : Type 0} → (P : A → Type 0) (xs ys : List A) → AllByRecursion P (xs ++ ys) → AllByRecursion P xs × AllByRecursion P ys
both_halves P [] ys h = (tt, h)
both_halves P (x ∷ xs) ys h = let rest = both_halves P xs ys h.1 in ((h.0, rest.0), rest.1)

agree_both : (e f : Environment) (xs ys : List Pair) → AgreeOn e f (xs ++ ys) → AgreeOn e f xs × AgreeOn e f ys
agree_both e f xs ys h = both_halves (λ (pair : Pair). e pair.0 pair.1 ≡ f pair.0 pair.1) xs ys h

mutual
  local : (e f : Environment) (t : syntax.Tree) → AgreeOn e f (named_by t) → meaning e t ≡ meaning f t
  local e f (syntax.number n) h = refl
  local e f (syntax.truth b) h = refl
  local e f syntax.null h = refl
  local e f (syntax.quoted ps last) h = ap (λ r. and_then r (λ valued. woven valued last)) (local_between e f ps h)
  local e f (syntax.reference a b) h = ap (λ r. and_then r limited) h.0
  local e f (syntax.call name ts) h = ap (called (function_named name) (count ts)) (local_among e f ts h)
  local e f (syntax.group t) h = local e f t h
  local e f (syntax.listed ts) h = ap (λ r. and_then r (λ vs. list_value (items_of vs))) (local_among e f ts h)
  local e f (syntax.attribute t name) h = ap (λ r. and_then r (λ v. attribute_value v name)) (local e f t h)
  local e f (syntax.index t i) h =
      let both = agree_both e f (named_by t) (named_by i) h in
      rw (local e f t both.0, local e f i both.1) refl
  local e f (syntax.unary op t) h = ap (λ r. and_then r (λ v. unary_value op v)) (local e f t h)
  local e f (syntax.binary op a b) h =
      let both = agree_both e f (named_by a) (named_by b) h in
      rw (local e f a both.0, local e f b both.1) refl
  local e f (syntax.conditional c a b) h =
      let last = agree_both e f (named_by c ++ named_by a) (named_by b) h in
      let both = agree_both e f (named_by c) (named_by a) last.0 in
      rw (local e f c both.0, local e f a both.1, local e f b last.1) refl

  local_among : (e f : Environment) (ts : syntax.Trees) → AgreeOn e f (named_among ts) → meanings e ts ≡ meanings f ts
  local_among e f syntax.no_trees h = refl
  local_among e f (syntax.tree t ts) h =
      let both = agree_both e f (named_by t) (named_among ts) h in
      rw (local e f t both.0, local_among e f ts both.1) refl

  local_between : (e f : Environment) (ps : syntax.Parts) → AgreeOn e f (named_between ps) → between e ps ≡ between f ps
  local_between e f syntax.no_parts h = refl
  local_between e f (syntax.part before t ps) h =
      let both = agree_both e f (named_by t) (named_between ps) h in
      rw (local e f t both.0, local_between e f ps both.1) refl

pub templates_local : TemplatesAreLocal
templates_local e f template h = ap (λ r. and_then r (λ valued. woven valued template.1)) (local_between e f template.0 h)

mutual
  pub expressions_local : ExpressionsAreLocal
  expressions_local e f exprs.null h = refl
  expressions_local e f (exprs.boolean b) h = refl
  expressions_local e f (exprs.whole z) h = refl
  expressions_local e f (exprs.template w) h = templates_local e f w h
  expressions_local e f (exprs.list ts) h = ap (λ r. and_then r (λ vs. list_value (values.items_of vs))) (expressions_local_among e f ts h)
  expressions_local e f (exprs.map es) h = ap (λ r. and_then r (λ vs. map_value vs)) (expressions_local_below e f es h)

  expressions_local_among : (e f : Environment) (ts : exprs.Trees) → AgreeOn e f (names.named_among ts) → expr.meanings e ts ≡ expr.meanings f ts
  expressions_local_among e f exprs.no_trees h = refl
  expressions_local_among e f (exprs.tree t ts) h =
      let both = agree_both e f (names.named_by t) (names.named_among ts) h in
      rw (expressions_local e f t both.0, expressions_local_among e f ts both.1) refl

  expressions_local_below : (e f : Environment) (es : exprs.Entries) → AgreeOn e f (names.named_below es) → expr.below e es ≡ expr.below f es
  expressions_local_below e f exprs.no_entries h = refl
  expressions_local_below e f (exprs.entry k t es) h =
      let both = agree_both e f (names.named_by t) (names.named_below es) h in
      rw (expressions_local e f t both.0, expressions_local_below e f es both.1) refl
