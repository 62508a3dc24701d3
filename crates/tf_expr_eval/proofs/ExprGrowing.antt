-- Knowledge of the values of expressions only grows.
use Rattle.std.proofs.Common.{◌≡◌, List, [], ◌∷◌, Ok, refl}
use Rattle.tf_value_data.specs.Tree as values
use Rattle.tf_value_data.specs.Refinement.{Refines, RefinesItems, RefinesEntries}
use Rattle.tf_expr_operators.specs.Answer.{Answer, list_value, map_value}
use Rattle.tf_expr_operators.specs.Laws.{ListGrows, MapGrows}
use Rattle.tf_expr_eval.specs.Environment.{Environment, RefinesTo}
use Rattle.tf_expr_eval.specs.Growth as templates
use Rattle.tf_expr_eval.proofs.Alone.{split, split_two}
use Rattle.tf_expr_eval.specs.ExprMeaning.{meaning, meanings, below}
use Rattle.tf_expr_syntax.specs.ExprTree.{Tree, null, boolean, whole, template, list, map, Trees, no_trees, tree, Entries, no_entries, entry}

-- what holds of templates, lists and maps, and that a value refines to itself
pub record Laws : Type 0 where
  pub same : (t : values.Tree) → Refines t t
  pub templates : templates.KnowledgeGrows
  pub list : ListGrows
  pub map : MapGrows

one_answer : (laws : Laws) (r : Answer) (v w : values.Tree) → r ≡ Ok v → r ≡ Ok w → Refines v w
one_answer laws r v w p q = let e : v ≡ w = (cc) in rw (← e) (laws.same v)

mutual
  pub grows : (laws : Laws) (before after : Environment) → RefinesTo before after → (t : Tree) (v w : values.Tree) → meaning before t ≡ Ok v → meaning after t ≡ Ok w → Refines v w
  grows laws e f h null v w p q = one_answer laws _ v w p q
  grows laws e f h (boolean b) v w p q = one_answer laws _ v w p q
  grows laws e f h (whole z) v w p q = one_answer laws _ v w p q
  grows laws e f h (template t) v w p q = laws.templates e f h t v w p q
  grows laws e f h (list ts) v w p q =
      let x = split (meanings e ts) (λ vs. list_value (values.items_of vs)) v p in
      let y = split (meanings f ts) (λ vs. list_value (values.items_of vs)) w q in
      laws.list (values.items_of x.0) (values.items_of y.0) v w (all_grow laws e f h ts x.0 y.0 x.1 y.1) x.2 y.2
  grows laws e f h (map es) v w p q =
      let x = split (below e es) (λ vs. map_value vs) v p in
      let y = split (below f es) (λ vs. map_value vs) w q in
      laws.map x.0 y.0 v w (below_grow laws e f h es x.0 y.0 x.1 y.1) x.2 y.2

  all_grow : (laws : Laws) (before after : Environment) → RefinesTo before after → (ts : Trees) (vs ws : List values.Tree) → meanings before ts ≡ Ok vs → meanings after ts ≡ Ok ws
      → RefinesItems (values.items_of vs) (values.items_of ws)
  all_grow laws e f h no_trees vs ws p q = let x : [] ≡ vs = (cc) in let y : [] ≡ ws = (cc) in rw (← x, ← y) tt
  all_grow laws e f h (tree t ts) vs ws p q =
      let x = split_two (meaning e t) (meanings e ts) (λ v others. v ∷ others) vs p in
      let y = split_two (meaning f t) (meanings f ts) (λ v others. v ∷ others) ws q in
      let a : x.0 ∷ x.1 ≡ vs = x.4 in
      let b : y.0 ∷ y.1 ≡ ws = y.4 in
      rw (← a, ← b) (grows laws e f h t x.0 y.0 x.2 y.2, all_grow laws e f h ts x.1 y.1 x.3 y.3)

  below_grow : (laws : Laws) (before after : Environment) → RefinesTo before after → (es : Entries) (vs ws : values.Entries) → below before es ≡ Ok vs → below after es ≡ Ok ws → RefinesEntries vs ws
  below_grow laws e f h no_entries vs ws p q = let x : values.no_entries ≡ vs = (cc) in let y : values.no_entries ≡ ws = (cc) in rw (← x, ← y) tt
  below_grow laws e f h (entry k t es) vs ws p q =
      let x = split_two (meaning e t) (below e es) (λ v others. values.entry k v others) vs p in
      let y = split_two (meaning f t) (below f es) (λ v others. values.entry k v others) ws q in
      let a : values.entry k x.0 x.1 ≡ vs = x.4 in
      let b : values.entry k y.0 y.1 ≡ ws = y.4 in
      rw (← a, ← b) (refl, grows laws e f h t x.0 y.0 x.2 y.2, below_grow laws e f h es x.1 y.1 x.3 y.3)
