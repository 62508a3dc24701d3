-- Expressions as plain data: no pointers, no capacities.
use Rattle.std.specs.Prelude.{ℕ, ℤ, Bool, if◌then◌else◌, Option, Some, None, List, [], ◌∷◌, map as each, String, string_bytes}
use Rattle.std.specs.Cmp.Lexicographic.{slice_cmp}
use Rattle.std.specs.Ordering.{nat_cmp, match_ordering}
use Rattle.std.specs.Str.{bytes_eq}
use Rattle.std.specs.declared.alloc.Global.{Global}
use Rattle.tf_expr_syntax.specs.TemplateTree.{Woven, template_view}
use Rattle.tf_expr_syntax.specs.declared.expr.Expr.{Expr, fold-Expr}
use Rattle.tf_expr_syntax.specs.declared.expr.Expr.TheOpen.{Expr-F}

-- An expression: a scalar, a template, a list of expressions, or a map from names to expressions.
mutual
  pub data Tree : Type 0 where
    null : Tree
    boolean : Bool → Tree
    whole : ℤ → Tree
    template : Woven → Tree
    list : Trees → Tree
    map : Entries → Tree

  pub data Trees : Type 0 where
    no_trees : Trees
    tree : Tree → Trees → Trees

  -- the entries of a map, in byte order of their names
  pub data Entries : Type 0 where
    no_entries : Entries
    entry : List ℕ → Tree → Entries → Entries

-- the trees of a list
abbrev pub trees_of : List Tree → Trees
trees_of [] = no_trees
trees_of (t ∷ ts) = tree t (trees_of ts)

-- the trees of a list under their names
abbrev pub entries_of : List (String Global × Tree) → Entries
entries_of [] = no_entries
entries_of (e ∷ es) = entry (string_bytes e.0) e.1 (entries_of es)

-- one level, with each expression inside already seen as its tree
abbrev pub level : Expr-F Tree → Tree
level Expr-F.Null = null
level (Expr-F.Bool b) = boolean b
level (Expr-F.Int z) = whole z
level (Expr-F.Template t) = template (template_view t)
level (Expr-F.List v) = list (trees_of v.items)
level (Expr-F.Map m) = map (entries_of m.entries)

-- the tree that an `Expr` represents
abbrev pub tree_of : Expr → Tree
tree_of = fold-Expr Tree level

-- the trees of a `Vec<Expr>`
abbrev pub trees_view : List Expr → Trees
trees_view es = trees_of (each tree_of es)

-- the entries of a `BTreeMap<String, Expr>`
abbrev pub entries_view : List (String Global × Expr) → Entries
entries_view es = entries_of (each (λ e. (e.0, tree_of e.1)) es)

-- the tree at a name
abbrev pub get : List ℕ → Entries → Option Tree
get k no_entries = None
get k (entry l t es) = if bytes_eq k l then Some t else get k es

-- the entries with a tree at a name, in byte order of the names
abbrev pub put : List ℕ → Tree → Entries → Entries
put k t no_entries = entry k t no_entries
put k t (entry l u es) = match_ordering (slice_cmp nat_cmp k l) (entry k t (entry l u es)) (entry l t es) (entry l u (put k t es))
