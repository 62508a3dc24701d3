-- Trees of templates and expressions.
use Rattle.std.specs.Prelude.{ℕ, suc, max, Bool, List, [], ◌∷◌, map, String, string_bytes}
use Rattle.std.specs.declared.alloc.Global.{Global}
use Rattle.tf_expr_syntax.specs.declared.operator.Operator.{Operator}
use Rattle.tf_expr_syntax.specs.declared.operator.Operator.TheVariants.{Or, And, Equal, NotEqual, Greater, GreaterOrEqual, Less, LessOrEqual, Add, Subtract, Multiply}
use Rattle.tf_expr_syntax.specs.declared.tree.Prefix.{Prefix}
use Rattle.tf_expr_syntax.specs.declared.tree.Template.{Template, Template-F, fold-Template}
use Rattle.tf_expr_syntax.specs.declared.tree.Term.{Term, fold-Term}
use Rattle.tf_expr_syntax.specs.declared.tree.Term.TheOpen.{Term-F}

-- an expression, a sequence of expressions, and interpolations, each after its text
mutual
  pub data Tree : Type 0 where
    number : ℕ → Tree
    truth : Bool → Tree
    null : Tree
    quoted : Parts → List ℕ → Tree
    reference : List ℕ → List ℕ → Tree
    call : List ℕ → Trees → Tree
    group : Tree → Tree
    listed : Trees → Tree
    attribute : Tree → List ℕ → Tree
    index : Tree → Tree → Tree
    unary : Prefix → Tree → Tree
    binary : Operator → Tree → Tree → Tree
    conditional : Tree → Tree → Tree → Tree

  pub data Trees : Type 0 where
    no_trees : Trees
    tree : Tree → Trees → Trees

  pub data Parts : Type 0 where
    no_parts : Parts
    part : List ℕ → Tree → Parts → Parts

-- a template: its interpolations, and the text after the last
abbrev pub Woven : Type 0
Woven = Parts × List ℕ

-- A number, a truth value, null, a reference and a template without interpolation have depth 1. Each other tree has 1
-- more than the deepest of its parts, and 1 if it has no parts.
abbrev mutual
  pub tree_depth : Tree → ℕ
  tree_depth (number n) = 1
  tree_depth (truth b) = 1
  tree_depth null = 1
  tree_depth (quoted ps last) = suc (parts_depth ps)
  tree_depth (reference a b) = 1
  tree_depth (call f ts) = suc (trees_depth ts)
  tree_depth (group t) = suc (tree_depth t)
  tree_depth (listed ts) = suc (trees_depth ts)
  tree_depth (attribute t name) = suc (tree_depth t)
  tree_depth (index t i) = suc (max (tree_depth t) (tree_depth i))
  tree_depth (unary op t) = suc (tree_depth t)
  tree_depth (binary op a b) = suc (max (tree_depth a) (tree_depth b))
  tree_depth (conditional c a b) = suc (max (tree_depth c) (max (tree_depth a) (tree_depth b)))

  pub trees_depth : Trees → ℕ
  trees_depth no_trees = 0
  trees_depth (tree t ts) = max (tree_depth t) (trees_depth ts)

  pub parts_depth : Parts → ℕ
  parts_depth no_parts = 0
  parts_depth (part text t ps) = max (tree_depth t) (parts_depth ps)

abbrev pub template_depth : Woven → ℕ
template_depth w = suc (parts_depth w.0)

-- how tightly a binary operator binds
abbrev pub level_of : Operator → ℕ
level_of Or = 2
level_of And = 3
level_of Equal = 4
level_of NotEqual = 4
level_of Greater = 5
level_of GreaterOrEqual = 5
level_of Less = 5
level_of LessOrEqual = 5
level_of Add = 6
level_of Subtract = 6
level_of Multiply = 7

-- the level of a tree in the grammar: 1 is a conditional, 2 to 7 are binary operators, 8 is a prefix operator with
-- its operand, 9 an operand, and 10 an operand that an attribute or an index may follow
abbrev pub level : Tree → ℕ
level (number n) = 9
level (truth b) = 9
level null = 9
level (quoted ps last) = 9
level (reference a b) = 10
level (call f ts) = 10
level (group t) = 10
level (listed ts) = 10
level (attribute t name) = 10
level (index t i) = 10
level (unary op t) = 8
level (binary op a b) = level_of op
level (conditional c a b) = 1

-- trees without their pointers
abbrev pub trees_of : List Tree → Trees
trees_of [] = no_trees
trees_of (t ∷ ts) = tree t (trees_of ts)

abbrev pub parts_of : List (String Global × Tree) → Parts
parts_of [] = no_parts
parts_of (p ∷ ps) = part (string_bytes p.0) p.1 (parts_of ps)

abbrev pub term_step : Term-F Tree Woven → Tree
term_step (Term-F.Number n) = number n
term_step (Term-F.Truth b) = truth b
term_step Term-F.Null = null
term_step (Term-F.Quoted w) = quoted w.0 w.1
term_step (Term-F.Reference r) = reference (string_bytes r.first) (string_bytes r.name)
term_step (Term-F.Call f ts) = call (string_bytes f) (trees_of ts.items)
term_step (Term-F.Group t) = group t.value
term_step (Term-F.List ts) = listed (trees_of ts.items)
term_step (Term-F.Attribute t name) = attribute t.value (string_bytes name)
term_step (Term-F.Index t i) = index t.value i.value
term_step (Term-F.Unary op t) = unary op t.value
term_step (Term-F.Binary op a b) = binary op a.value b.value
term_step (Term-F.Conditional c a b) = conditional c.value a.value b.value

abbrev pub template_step : Template-F Tree Woven → Woven
template_step t = (parts_of t.parts.items, string_bytes t.last)

abbrev pub view : Term → Tree
view = fold-Term Tree Woven term_step template_step

abbrev pub template_view : Template → Woven
template_view = fold-Template Tree Woven term_step template_step

abbrev pub terms_view : List Term → Trees
terms_view ts = trees_of (map view ts)

abbrev pub parts_view : List (String Global × Term) → Parts
parts_view ps = parts_of (map (λ p. (p.0, view p.1)) ps)
