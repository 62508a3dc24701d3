-- What a template names and calls, from left to right.
use Rattle.std.specs.Prelude.{ℕ, List, [], ◌∷◌, ◌++◌, string_bytes}
use Rattle.tf_expr_syntax.specs.TemplateTree.{Tree, number, truth, null, quoted, reference, call, group, listed, attribute, index, unary, binary, conditional, Trees, no_trees, tree, Parts, no_parts, part, Woven}
use Rattle.tf_expr_syntax.specs.declared.tree.Reference.{Reference}

-- What `named` gives for each reference's two names and `called` for each call's name, from left to right. A call
-- comes before its arguments, and both branches of a conditional count.
abbrev mutual
  pub gathered : {A : Type 0} → (List ℕ → List ℕ → List A) → (List ℕ → List A) → Tree → List A
  gathered named called (number n) = []
  gathered named called (truth b) = []
  gathered named called null = []
  gathered named called (quoted ps last) = gathered_between named called ps
  gathered named called (reference a b) = named a b
  gathered named called (call f ts) = called f ++ gathered_among named called ts
  gathered named called (group t) = gathered named called t
  gathered named called (listed ts) = gathered_among named called ts
  gathered named called (attribute t name) = gathered named called t
  gathered named called (index t i) = gathered named called t ++ gathered named called i
  gathered named called (unary op t) = gathered named called t
  gathered named called (binary op a b) = gathered named called a ++ gathered named called b
  gathered named called (conditional c a b) = gathered named called c ++ gathered named called a ++ gathered named called b

  pub gathered_among : {A : Type 0} → (List ℕ → List ℕ → List A) → (List ℕ → List A) → Trees → List A
  gathered_among named called no_trees = []
  gathered_among named called (tree t ts) = gathered named called t ++ gathered_among named called ts

  pub gathered_between : {A : Type 0} → (List ℕ → List ℕ → List A) → (List ℕ → List A) → Parts → List A
  gathered_between named called no_parts = []
  gathered_between named called (part text t ps) = gathered named called t ++ gathered_between named called ps

-- the two names of a reference
abbrev pub Pair : Type 0
Pair = List ℕ × List ℕ

abbrev pub reference_of : Reference → Pair
reference_of r = (string_bytes r.first, string_bytes r.name)

-- only a reference
abbrev pub one_name : List ℕ → List ℕ → List Pair
one_name a b = (a, b) ∷ []

abbrev pub no_name : List ℕ → List Pair
no_name f = []

-- only the name of a call
abbrev pub one_call : List ℕ → List (List ℕ)
one_call f = f ∷ []

abbrev pub no_call : List ℕ → List ℕ → List (List ℕ)
no_call a b = []

-- each reference, with repetition
abbrev pub named_by : Tree → List Pair
named_by t = gathered one_name no_name t

abbrev pub named_among : Trees → List Pair
named_among ts = gathered_among one_name no_name ts

abbrev pub named_between : Parts → List Pair
named_between ps = gathered_between one_name no_name ps

abbrev pub named : Woven → List Pair
named w = named_between w.0

-- the name of each call, with repetition, before those of the calls among its arguments
abbrev pub called_by : Tree → List (List ℕ)
called_by t = gathered no_call one_call t

abbrev pub called_among : Trees → List (List ℕ)
called_among ts = gathered_among no_call one_call ts

abbrev pub called_between : Parts → List (List ℕ)
called_between ps = gathered_between no_call one_call ps

abbrev pub called : Woven → List (List ℕ)
called w = called_between w.0
