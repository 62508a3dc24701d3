-- What an expression names and calls, in walk order.
use Rattle.std.specs.Prelude.{ℕ, List, [], ◌++◌}
use Rattle.tf_expr_syntax.specs.TemplateNames.{Pair, named, called}
use Rattle.tf_expr_syntax.specs.TemplateTree.{Woven}
use Rattle.tf_expr_syntax.specs.ExprTree.{Tree, null, boolean, whole, template, list, map, Trees, no_trees, tree, Entries, no_entries, entry}

-- what `of` gives for each of its templates, one after another
abbrev mutual
  pub gathered : {A : Type 0} → (Woven → List A) → Tree → List A
  gathered of null = []
  gathered of (boolean b) = []
  gathered of (whole z) = []
  gathered of (template w) = of w
  gathered of (list ts) = gathered_among of ts
  gathered of (map es) = gathered_below of es

  pub gathered_among : {A : Type 0} → (Woven → List A) → Trees → List A
  gathered_among of no_trees = []
  gathered_among of (tree t ts) = gathered of t ++ gathered_among of ts

  pub gathered_below : {A : Type 0} → (Woven → List A) → Entries → List A
  gathered_below of no_entries = []
  gathered_below of (entry k t es) = gathered of t ++ gathered_below of es

-- each reference in its templates, with repetition
abbrev pub named_by : Tree → List Pair
named_by t = gathered named t

abbrev pub named_among : Trees → List Pair
named_among ts = gathered_among named ts

abbrev pub named_below : Entries → List Pair
named_below es = gathered_below named es

-- the name of each function that its templates call, with repetition
abbrev pub called_by : Tree → List (List ℕ)
called_by t = gathered called t

abbrev pub called_among : Trees → List (List ℕ)
called_among ts = gathered_among called ts

abbrev pub called_below : Entries → List (List ℕ)
called_below es = gathered_below called es
