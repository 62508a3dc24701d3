-- The meaning of templates and expressions.
use Rattle.std.specs.Prelude.{ℕ, suc, pos, Bool, true, false, if◌then◌else◌, Option, Some, None, List, [], ◌∷◌, Result, Ok, Err}
use Rattle.tf_expr_syntax.specs.TemplateTree as syntax
use Rattle.tf_value_data.specs.Tree.{Tree, null, boolean, whole, text, list, map, set, unknown, Items, no_items, item, items_of}
use Rattle.tf_expr_operators.specs.Answer.{Answer, limited, whole_value, list_value, item_behind}
use Rattle.tf_expr_operators.specs.Functions.{call_value}
use Rattle.tf_expr_syntax.specs.Function.{function_named, takes}
use Rattle.tf_expr_operators.specs.Joining.{joined_value}
use Rattle.tf_expr_operators.specs.Operators.{unary_value, binary_value}
use Rattle.tf_expr_operators.specs.Parts.{attribute_value, index_value}
use Rattle.tf_expr_syntax.specs.declared.fault.EvalFault.{EvalFault}
use Rattle.tf_expr_syntax.specs.declared.fault.EvalFault.TheVariants.{WrongKind, Missing, Arity}
use Rattle.tf_expr_syntax.specs.declared.function.Function.{Function}
use Rattle.tf_expr_eval.specs.Environment.{Environment}

-- continues with a value; the first fault is the answer
abbrev pub and_then : {A B : Type 0} → Result A EvalFault → (A → Result B EvalFault) → Result B EvalFault
and_then (Ok a) next = next a
and_then (Err fault) next = Err fault

-- A condition is a truth value, or unknown.
abbrev pub choice : Tree → Result (Option Bool) EvalFault
choice (boolean b) = Ok (Some b)
choice unknown = Ok None
choice _ = Err WrongKind

-- Only the branch that a condition chooses matters. If the condition is unknown, neither does.
abbrev pub chosen : Option Bool → Answer → Answer → Answer
chosen None first second = Ok unknown
chosen (Some true) first second = first
chosen (Some false) first second = second

-- the number of expressions in a sequence
abbrev pub count : syntax.Trees → ℕ
count syntax.no_trees = 0
count (syntax.tree t ts) = suc (count ts)

-- An unknown function is missing, and a wrong number of arguments is refused, both before the arguments are
-- evaluated.
abbrev pub called : Option Function → ℕ → Result (List Tree) EvalFault → Answer
called None arguments values = Err Missing
called (Some f) arguments values = if takes f arguments then and_then values (λ vs. call_value f (items_of vs)) else Err Arity

-- whether a template is exactly one interpolation, without any text around it
abbrev pub stands_alone : syntax.Parts → List ℕ → Bool
stands_alone (syntax.part [] t syntax.no_parts) [] = true
stands_alone _ _ = false

-- texts and the values after them, in order
abbrev pub laid : List (List ℕ × Tree) → Items
laid [] = no_items
laid ((before, v) ∷ others) = item (text before) (item v (laid others))

-- The value of a single interpolation without any text around it is the template's. Any other template is a text,
-- joined of its texts and values.
abbrev pub woven : List (List ℕ × Tree) → List ℕ → Answer
woven (([], v) ∷ []) [] = Ok v
woven valued last = joined_value (item_behind (laid valued) (text last))

-- The parts are evaluated from left to right, and the first fault is the answer.
abbrev mutual
  pub meaning : Environment → syntax.Tree → Answer
  meaning env (syntax.number n) = whole_value (pos n)
  meaning env (syntax.truth b) = Ok (boolean b)
  meaning env syntax.null = Ok null
  meaning env (syntax.quoted ps last) = and_then (between env ps) (λ valued. woven valued last)
  meaning env (syntax.reference first name) = and_then (env first name) limited
  meaning env (syntax.call f ts) = called (function_named f) (count ts) (meanings env ts)
  meaning env (syntax.group t) = meaning env t
  meaning env (syntax.listed ts) = and_then (meanings env ts) (λ vs. list_value (items_of vs))
  meaning env (syntax.attribute t name) = and_then (meaning env t) (λ v. attribute_value v name)
  meaning env (syntax.index t i) = and_then (meaning env t) (λ v. and_then (meaning env i) (λ w. index_value v w))
  meaning env (syntax.unary op t) = and_then (meaning env t) (λ v. unary_value op v)
  meaning env (syntax.binary op a b) = and_then (meaning env a) (λ v. and_then (meaning env b) (λ w. binary_value op v w))
  meaning env (syntax.conditional c a b) = and_then (meaning env c) (λ v. and_then (choice v) (λ is_met. chosen is_met (meaning env a) (meaning env b)))

  pub meanings : Environment → syntax.Trees → Result (List Tree) EvalFault
  meanings env syntax.no_trees = Ok []
  meanings env (syntax.tree t ts) = and_then (meaning env t) (λ v. and_then (meanings env ts) (λ vs. Ok (v ∷ vs)))

  -- the values of the interpolations, each after its text
  pub between : Environment → syntax.Parts → Result (List (List ℕ × Tree)) EvalFault
  between env syntax.no_parts = Ok []
  between env (syntax.part before t ps) = and_then (meaning env t) (λ v. and_then (between env ps) (λ valued. Ok ((before, v) ∷ valued)))

-- the meaning of a template
abbrev pub template_meaning : Environment → syntax.Woven → Answer
template_meaning env w = and_then (between env w.0) (λ valued. woven valued w.1)
