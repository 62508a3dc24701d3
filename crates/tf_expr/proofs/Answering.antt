-- Answers to references, one after another.
use Rattle.std.proofs.Common.{◌≡◌, ◌∙◌, ℕ, refl, ap, sym, subst, Bool, true, false, ◌&&◌, ◌||◌, List, [], ◌∷◌, ◌++◌}
use Rattle.std.proofs.lemmas.Slice.Eq.{bytes_eq-Decides}
use Rattle.std.specs.List.{AllByRecursion}
use Rattle.std.specs.Str.{bytes_eq}
use Rattle.tf_expr_syntax.specs.TemplateNames.{Pair}
use Rattle.tf_expr_eval.specs.Environment.{Environment}
use Rattle.tf_expr_eval.specs.Locality.{AgreeOn}
use Rattle.tf_expr.specs.Looked.{AnswerView, answer_in, answer_to, answers_to, is_answered, with_answer, with_answers}

-- each answer is what the environment gives its reference
abbrev pub AreRight : Environment → List AnswerView → Type 0
AreRight env answers = AllByRecursion (λ a. a.answer ≡ env a.first a.name) answers

-- each of these references has an answer
abbrev pub Cover : List AnswerView → List Pair → Type 0
Cover answers pairs = AllByRecursion (λ (pair : Pair). is_answered answers pair.0 pair.1 ≡ true) pairs

-- what has an answer in one list has one in the other
abbrev pub Grow : List AnswerView → List AnswerView → Type 0
Grow before after = (first name : List ℕ) → is_answered before first name ≡ true → is_answered after first name ≡ true

right_by : (env : Environment) (a : AnswerView) (others : List AnswerView) (first name : List ℕ) (same_first same_name : Bool)
    → bytes_eq a.first first ≡ same_first → bytes_eq a.name name ≡ same_name → a.answer ≡ env a.first a.name
    → (is_answered others first name ≡ true → answer_in others first name ≡ env first name)
    → is_answered (a ∷ others) first name ≡ true → answer_in (a ∷ others) first name ≡ env first name
right_by env a others first name true true p q r rest h =
    let f = (bytes_eq-Decides a.first first).0 p in
    let n = (bytes_eq-Decides a.name name).0 q in
    let here : answer_in (a ∷ others) first name ≡ a.answer = rw (p, q) refl in
    here ∙ r ∙ ap (λ x. env x a.name) f ∙ ap (env first) n
right_by env a others first name true false p q r rest h =
    let there : answer_in (a ∷ others) first name ≡ answer_in others first name = rw (p, q) refl in
    let left : is_answered (a ∷ others) first name ≡ is_answered others first name = rw (p, q) refl in
    there ∙ rest (sym left ∙ h)
right_by env a others first name false b p q r rest h =
    let there : answer_in (a ∷ others) first name ≡ answer_in others first name = rw p refl in
    let left : is_answered (a ∷ others) first name ≡ is_answered others first name = rw p refl in
    there ∙ rest (sym left ∙ h)

-- the answer of a reference that has one is right
pub right : (env : Environment) (answers : List AnswerView) (first name : List ℕ) → AreRight env answers → is_answered answers first name ≡ true → answer_in answers first name ≡ env first name
right env [] first name h is = absurd (cc)
right env (a ∷ others) first name h is =
    right_by env a others first name (bytes_eq a.first first) (bytes_eq a.name name) refl refl h.0 (right env others first name h.1) is

-- so where all are right, each reference that has an answer is agreed on
pub agreed : (env : Environment) (answers : List AnswerView) (pairs : List Pair) → AreRight env answers → Cover answers pairs → AgreeOn (answer_in answers) env pairs
agreed env answers [] h c = tt
agreed env answers (pair ∷ pairs) h c = (right env answers pair.0 pair.1 h c.0, agreed env answers pairs h c.1)

-- one more that is right
pub right_more : (env : Environment) (answers : List AnswerView) (a : AnswerView) → AreRight env answers → a.answer ≡ env a.first a.name → AreRight env (answers ++ a ∷ [])
right_more env [] a h r = (r, tt)
right_more env (b ∷ answers) a h r = (h.0, right_more env answers a h.1 r)

or_left : (p q r : Bool) → (q ≡ true → r ≡ true) → p || q ≡ true → p || r ≡ true
or_left true q r f h = refl
or_left false q r f h = f h

-- with one more, what had an answer has one
pub grow_more : (answers : List AnswerView) (a : AnswerView) → Grow answers (answers ++ a ∷ [])
grow_more [] a first name h = absurd (cc)
grow_more (b ∷ answers) a first name h =
    or_left (bytes_eq b.first first && bytes_eq b.name name) (is_answered answers first name) (is_answered (answers ++ a ∷ []) first name) (grow_more answers a first name) h

-- and so has its own reference
pub last_answered : (answers : List AnswerView) (a : AnswerView) → is_answered (answers ++ a ∷ []) a.first a.name ≡ true
last_answered [] a =
    let f : bytes_eq a.first a.first ≡ true = (bytes_eq-Decides a.first a.first).1 refl in
    let n : bytes_eq a.name a.name ≡ true = (bytes_eq-Decides a.name a.name).1 refl in
    rw (f, n) refl
last_answered (b ∷ answers) a = or_true (bytes_eq b.first a.first && bytes_eq b.name a.name) (is_answered (answers ++ a ∷ []) a.first a.name) (last_answered answers a)
  where
    or_true : (p q : Bool) → q ≡ true → p || q ≡ true
    or_true true q h = refl
    or_true false q h = h

-- with the answer of a reference, if it has none yet
more_by : (env : Environment) (known : List AnswerView) (pair : Pair) (has : Bool) → is_answered known pair.0 pair.1 ≡ has
    → (AreRight env known → AreRight env (with_answer env known pair)) × Grow known (with_answer env known pair) × (is_answered (with_answer env known pair) pair.0 pair.1 ≡ true)
more_by env known pair true e =
    let is : with_answer env known pair ≡ known = rw e refl in
    (λ h. subst (AreRight env) (sym is) h, λ first name h. subst (λ more. is_answered more first name ≡ true) (sym is) h, subst (λ more. is_answered more pair.0 pair.1 ≡ true) (sym is) e)
more_by env known pair false e =
    let is : with_answer env known pair ≡ known ++ answer_to env pair ∷ [] = rw e refl in
    (λ h. subst (AreRight env) (sym is) (right_more env known (answer_to env pair) h refl), λ first name h. subst (λ more. is_answered more first name ≡ true) (sym is) (grow_more known (answer_to env pair) first name h), subst (λ more. is_answered more pair.0 pair.1 ≡ true) (sym is) (last_answered known (answer_to env pair)))

right_all : (env : Environment) (known : List AnswerView) (pairs : List Pair) → AreRight env known → AreRight env (with_answers env known pairs)
right_all env known [] h = h
right_all env known (pair ∷ pairs) h = right_all env (with_answer env known pair) pairs ((more_by env known pair (is_answered known pair.0 pair.1) refl).0 h)

grow_all : (env : Environment) (known : List AnswerView) (pairs : List Pair) → Grow known (with_answers env known pairs)
grow_all env known [] first name h = h
grow_all env known (pair ∷ pairs) first name h = grow_all env (with_answer env known pair) pairs first name ((more_by env known pair (is_answered known pair.0 pair.1) refl).1 first name h)

cover_all : (env : Environment) (known : List AnswerView) (pairs : List Pair) → Cover (with_answers env known pairs) pairs
cover_all env known [] = tt
cover_all env known (pair ∷ pairs) =
    (grow_all env (with_answer env known pair) pairs pair.0 pair.1 (more_by env known pair (is_answered known pair.0 pair.1) refl).2, cover_all env (with_answer env known pair) pairs)

-- The answers to references agree on them with the environment that gave them.
pub all_agreed : (env : Environment) (pairs : List Pair) → AgreeOn (answer_in (answers_to env pairs)) env pairs
all_agreed env pairs = agreed env (answers_to env pairs) pairs (right_all env [] pairs tt) (cover_all env [] pairs)
