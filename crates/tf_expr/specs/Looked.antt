-- What references stand for that were looked up.
use Rattle.std.specs.Prelude.{ℕ, Bool, false, ◌&&◌, ◌||◌, if◌then◌else◌, List, [], ◌∷◌, ◌++◌, map as each, string_bytes, Result, Ok, Err}
use Rattle.std.specs.Str.{bytes_eq}
use Rattle.tf_expr_operators.specs.Answer.{Answer}
use Rattle.tf_expr_operators.specs.Bounded.{bounded_tree}
use Rattle.tf_expr_operators.specs.declared.bounded.Bounded.{Bounded}
use Rattle.tf_expr_syntax.specs.declared.fault.EvalFault.{EvalFault}
use Rattle.tf_expr_syntax.specs.declared.fault.EvalFault.TheVariants.{Missing}
use Rattle.tf_expr_syntax.specs.TemplateNames.{Pair}
use Rattle.tf_expr_eval.specs.Environment.{Environment}
use Rattle.tf_expr.specs.declared.looked.ReferenceAnswer.{ReferenceAnswer}
use Rattle.tf_expr.specs.declared.looked.Looked.{Looked}

-- a reference's two names, and its value or fault
pub record AnswerView : Type 0 where
  pub first : List ℕ
  pub name : List ℕ
  pub answer : Answer

-- a value within the limits as a plain tree, or the fault
abbrev pub bounded_answer : Result Bounded EvalFault → Answer
bounded_answer (Ok b) = Ok (bounded_tree b)
bounded_answer (Err e) = Err e

abbrev pub answer_of : ReferenceAnswer → AnswerView
answer_of a = record { first = string_bytes a.reference.first; name = string_bytes a.reference.name; answer = bounded_answer a.answer }

abbrev pub answers_of : List ReferenceAnswer → List AnswerView
answers_of = each answer_of

-- The value of a reference is its first answer. Any other reference is missing.
abbrev pub answer_in : List AnswerView → Environment
answer_in [] first name = Err Missing
answer_in (a ∷ others) first name = if bytes_eq a.first first && bytes_eq a.name name then a.answer else answer_in others first name

-- the values of references in the answers of a `Looked`
abbrev pub environment_of : Looked → Environment
environment_of l = answer_in (answers_of l.answers.items)

-- whether a reference has an answer
abbrev pub is_answered : List AnswerView → List ℕ → List ℕ → Bool
is_answered [] first name = false
is_answered (a ∷ others) first name = bytes_eq a.first first && bytes_eq a.name name || is_answered others first name

-- what an environment gives a reference
abbrev pub answer_to : Environment → Pair → AnswerView
answer_to env pair = record { first = pair.0; name = pair.1; answer = env pair.0 pair.1 }

-- the answers with that of a reference after them, if it has none yet
abbrev pub with_answer : Environment → List AnswerView → Pair → List AnswerView
with_answer env known pair = if is_answered known pair.0 pair.1 then known else known ++ answer_to env pair ∷ []

-- the answers with those of more references after them
abbrev pub with_answers : Environment → List AnswerView → List Pair → List AnswerView
with_answers env known [] = known
with_answers env known (pair ∷ pairs) = with_answers env (with_answer env known pair) pairs

-- the answers to references: each reference once, where it is named first
abbrev pub answers_to : Environment → List Pair → List AnswerView
answers_to env pairs = with_answers env [] pairs
