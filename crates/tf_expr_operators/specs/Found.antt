-- A value that was found: borrowed or made.
use Rattle.std.specs.Prelude.{◌≡◌, List, map as each, Result, Ok, Err, ⊤}
use Rattle.tf_value_data.specs.Tree.{Tree, tree_of, Items, items_of}
use Rattle.tf_expr_syntax.specs.declared.fault.EvalFault.{EvalFault}
use Rattle.tf_expr_syntax.specs.declared.fault.EvalFault.TheVariants.{OutOfMemory}
use Rattle.tf_expr_operators.specs.declared.found.Found.{Found}
use Rattle.tf_expr_operators.specs.declared.found.Found.TheVariants.{At, Made}
use Rattle.tf_expr_operators.specs.Answer.{Answer}

-- the tree of the value
abbrev pub found_tree : Found → Tree
found_tree (At r) = tree_of r.now
found_tree (Made v) = tree_of v

-- the trees of the values, as items
abbrev pub found_items : List Found → Items
found_items fs = items_of (each found_tree fs)

-- A call returns exactly this answer: the value, or the same fault.
abbrev pub FindsExactly : Answer → Result Found EvalFault → Type 0
FindsExactly a (Ok f) = a ≡ Ok (found_tree f)
FindsExactly a (Err e) = a ≡ Err e

-- A call returns exactly this answer, or memory ran out.
abbrev pub Finds : Answer → Result Found EvalFault → Type 0
Finds a (Ok f) = a ≡ Ok (found_tree f)
Finds a (Err OutOfMemory) = ⊤
Finds a (Err e) = a ≡ Err e
