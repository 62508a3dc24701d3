-- Parts in a row, valued one after another.
use Rattle.std.proofs.Common.{◌≡◌, refl, ℕ, ◌+◌, ◌<◌, ◌≤◌, suc, List, [], ◌∷◌, ◌++◌, Option, Some, true, false, length, get_or, drop, Result, Ok, Err, String, string_bytes, Global, sym, ap, ◌∙◌, append_assoc}
use Rattle.std.proofs.lemmas.List.{append-nil, drop_more, drop_all}
use Rattle.tf_value_data.specs.Tree.{Tree, text, Items, no_items, item, items_of}
use Rattle.tf_value_data.specs.declared.value.Value.{Value}
use Rattle.tf_expr_syntax.specs.TemplateTree as syntax
use Rattle.tf_expr_syntax.specs.TemplateTree.{view, terms_view, parts_view}
use Rattle.tf_expr_syntax.specs.declared.tree.Term.{Term}
use Rattle.tf_expr_operators.specs.Answer.{Answer, Answers, Gives, items_behind, item_behind}
use Rattle.tf_expr_operators.specs.Functions.{call_value}
use Rattle.tf_expr_syntax.specs.Function.{takes}
use Rattle.tf_expr_syntax.specs.declared.fault.EvalFault.{EvalFault}
use Rattle.tf_expr_syntax.specs.declared.fault.EvalFault.TheVariants.{Overflow, WrongKind, Missing, Arity, TooLarge, OutOfMemory}
use Rattle.tf_expr_syntax.specs.declared.function.Function.{Function}
use Rattle.tf_expr_eval.specs.Answering.{Fails}
use Rattle.tf_expr_eval.specs.Environment.{Environment}
use Rattle.tf_expr_eval.specs.Meaning.{and_then, meaning, meanings, between, laid, count, called}
use Rattle.tf_expr_eval.proofs.Alone.{split_two}

-- what the rest gives, behind what there is
abbrev pub onto : {X : Type 0} → List X → Result (List X) EvalFault → Result (List X) EvalFault
onto done (Ok xs) = Ok (done ++ xs)
onto done (Err e) = Err e

pub onto-nil : {X : Type 0} → (r : Result (List X) EvalFault) → r ≡ onto [] r
onto-nil (Ok xs) = refl
onto-nil (Err e) = refl

pub onto-one : {X : Type 0} → (done : List X) (x : X) (r : Result (List X) EvalFault) → onto done (and_then r (λ xs. Ok (x ∷ xs))) ≡ onto (done ++ x ∷ []) r
onto-one done x (Ok xs) = ap Ok (sym (append_assoc done (x ∷ []) xs))
onto-one done x (Err e) = refl

-- what an expression and those behind it give
pub onto-and : {X : Type 0} → (done : List X) (v : X) (first : Result X EvalFault) (r : Result (List X) EvalFault) → first ≡ Ok v
    → onto done (and_then first (λ x. and_then r (λ xs. Ok (x ∷ xs)))) ≡ onto (done ++ v ∷ []) r
onto-and done v first r e = rw e (onto-one done v r)

pub onto-fault : {X : Type 0} → (done : List X) (fault : EvalFault) (first : Result X EvalFault) (r : Result (List X) EvalFault) → first ≡ Err fault
    → onto done (and_then first (λ x. and_then r (λ xs. Ok (x ∷ xs)))) ≡ Err fault
onto-fault done fault first r e = rw e refl

onto-piece : (done : List (List ℕ × Tree)) (s : List ℕ) (v : Tree) (first : Result Tree EvalFault) (r : Result (List (List ℕ × Tree)) EvalFault) → first ≡ Ok v
    → onto done (and_then first (λ w. and_then r (λ xs. Ok ((s, w) ∷ xs)))) ≡ onto (done ++ (s, v) ∷ []) r
onto-piece done s v first r e = rw e (onto-one done (s, v) r)

onto-piece-fault : (done : List (List ℕ × Tree)) (s : List ℕ) (fault : EvalFault) (first : Result Tree EvalFault) (r : Result (List (List ℕ × Tree)) EvalFault) → first ≡ Err fault
    → onto done (and_then first (λ w. and_then r (λ xs. Ok ((s, w) ∷ xs)))) ≡ Err fault
onto-piece-fault done s fault first r e = rw e refl

pub values-more : (env : Environment) (ts : List Term) (i : ℕ) (t : Term) (all : Result (List Tree) EvalFault) (done : List Tree) (v : Tree) → i < length ts → t ≡ get_or ts i t
    → all ≡ onto done (meanings env (terms_view (drop i ts))) → meaning env (view t) ≡ Ok v → all ≡ onto (done ++ v ∷ []) (meanings env (terms_view (drop (i + 1) ts)))
values-more env ts i t all done v h e inv m =
    inv ∙ ap (λ xs. onto done (meanings env (terms_view xs))) (drop_more ts i t h)
    ∙ onto-and done v (meaning env (view (get_or ts i t))) (meanings env (terms_view (drop (i + 1) ts))) (ap (λ x. meaning env (view x)) (sym e) ∙ m)

pub values-fault : (env : Environment) (ts : List Term) (i : ℕ) (t : Term) (all : Result (List Tree) EvalFault) (done : List Tree) (fault : EvalFault) → i < length ts → t ≡ get_or ts i t
    → all ≡ onto done (meanings env (terms_view (drop i ts))) → meaning env (view t) ≡ Err fault → all ≡ Err fault
values-fault env ts i t all done fault h e inv m =
    inv ∙ ap (λ xs. onto done (meanings env (terms_view xs))) (drop_more ts i t h)
    ∙ onto-fault done fault (meaning env (view (get_or ts i t))) (meanings env (terms_view (drop (i + 1) ts))) (ap (λ x. meaning env (view x)) (sym e) ∙ m)

pub values-end : (env : Environment) (ts : List Term) (i : ℕ) (all : Result (List Tree) EvalFault) (done : List Tree) → length ts ≤ i
    → all ≡ onto done (meanings env (terms_view (drop i ts))) → all ≡ Ok done
values-end env ts i all done h inv =
    inv ∙ ap (λ xs. onto done (meanings env (terms_view xs))) (drop_all i ts h) ∙ ap Ok (append-nil done)

pub count-is : (ts : List Term) → count (terms_view ts) ≡ length ts
count-is [] = refl
count-is (t ∷ ts) = ap suc (count-is ts)

pub pieces-more : (env : Environment) (ps : List (String Global × Term)) (i : ℕ) (p : String Global × Term) (all : Result (List (List ℕ × Tree)) EvalFault) (done : List (List ℕ × Tree)) (v : Tree) → i < length ps → p ≡ get_or ps i p
    → all ≡ onto done (between env (parts_view (drop i ps))) → meaning env (view p.1) ≡ Ok v → all ≡ onto (done ++ (string_bytes p.0, v) ∷ []) (between env (parts_view (drop (i + 1) ps)))
pieces-more env ps i p all done v h e inv m =
    inv ∙ ap (λ xs. onto done (between env (parts_view xs))) (drop_more ps i p h)
    ∙ ap (λ x. onto done (and_then (meaning env (view x.1)) (λ w. and_then (between env (parts_view (drop (i + 1) ps))) (λ others. Ok ((string_bytes x.0, w) ∷ others))))) (sym e)
    ∙ onto-piece done (string_bytes p.0) v (meaning env (view p.1)) (between env (parts_view (drop (i + 1) ps))) m

pub pieces-fault : (env : Environment) (ps : List (String Global × Term)) (i : ℕ) (p : String Global × Term) (all : Result (List (List ℕ × Tree)) EvalFault) (done : List (List ℕ × Tree)) (fault : EvalFault) → i < length ps → p ≡ get_or ps i p
    → all ≡ onto done (between env (parts_view (drop i ps))) → meaning env (view p.1) ≡ Err fault → all ≡ Err fault
pieces-fault env ps i p all done fault h e inv m =
    inv ∙ ap (λ xs. onto done (between env (parts_view xs))) (drop_more ps i p h)
    ∙ ap (λ x. onto done (and_then (meaning env (view x.1)) (λ w. and_then (between env (parts_view (drop (i + 1) ps))) (λ others. Ok ((string_bytes x.0, w) ∷ others))))) (sym e)
    ∙ onto-piece-fault done (string_bytes p.0) fault (meaning env (view p.1)) (between env (parts_view (drop (i + 1) ps))) m

pub pieces-end : (env : Environment) (ps : List (String Global × Term)) (i : ℕ) (all : Result (List (List ℕ × Tree)) EvalFault) (done : List (List ℕ × Tree)) → length ps ≤ i
    → all ≡ onto done (between env (parts_view (drop i ps))) → all ≡ Ok done
pieces-end env ps i all done h inv =
    inv ∙ ap (λ xs. onto done (between env (parts_view xs))) (drop_all i ps h) ∙ ap Ok (append-nil done)

behind-assoc : (a b c : Items) → items_behind (items_behind a b) c ≡ items_behind a (items_behind b c)
behind-assoc no_items b c = refl
behind-assoc (item t a) b c = ap (item t) (behind-assoc a b c)

laid-append : (ps qs : List (List ℕ × Tree)) → laid (ps ++ qs) ≡ items_behind (laid ps) (laid qs)
laid-append [] qs = refl
laid-append (p ∷ ps) qs = ap (λ rest. item (text p.0) (item p.1 rest)) (laid-append ps qs)

-- a text and a value more
pub laid-more : (ts : Items) (done : List (List ℕ × Tree)) (s : List ℕ) (v : Tree)
    → item_behind (item_behind (items_behind ts (laid done)) (text s)) v ≡ items_behind ts (laid (done ++ (s, v) ∷ []))
laid-more ts done s v =
    behind-assoc (items_behind ts (laid done)) (item (text s) no_items) (item v no_items)
    ∙ behind-assoc ts (laid done) (item (text s) (item v no_items)) ∙ ap (λ us. items_behind ts us) (sym (laid-append done ((s, v) ∷ [])))

pub behind-nil : (ts : Items) → items_behind ts no_items ≡ ts
behind-nil no_items = refl
behind-nil (item t ts) = ap (item t) (behind-nil ts)

-- a function that doesn't take so many arguments
pub called-few : (f : Function) (name : Option Function) (ts : List Term) (n : ℕ) (values : Result (List Tree) EvalFault) → Some f ≡ name → n ≡ length ts → takes f n ≡ false
    → called name (count (terms_view ts)) values ≡ Err Arity
called-few f name ts n values is len h = rw (← is, count-is ts, ← len, h) refl

-- a function whose arguments have a fault
pub called-fails : (f : Function) (name : Option Function) (ts : List Term) (n : ℕ) (values : Result (List Tree) EvalFault) (fault : EvalFault) → Some f ≡ name → n ≡ length ts → takes f n ≡ true
    → Fails values fault → Gives (called name (count (terms_view ts)) values) (Err fault)
called-fails f name ts n values Overflow is len h e = rw (← is, count-is ts, ← len, h, e) refl
called-fails f name ts n values WrongKind is len h e = rw (← is, count-is ts, ← len, h, e) refl
called-fails f name ts n values Missing is len h e = rw (← is, count-is ts, ← len, h, e) refl
called-fails f name ts n values Arity is len h e = rw (← is, count-is ts, ← len, h, e) refl
called-fails f name ts n values TooLarge is len h e = rw (← is, count-is ts, ← len, h, e) refl
called-fails f name ts n values OutOfMemory is len h e = tt

-- a function of values
pub called-is : (f : Function) (name : Option Function) (ts : List Term) (n : ℕ) (values : Result (List Tree) EvalFault) (vs : List Tree) → Some f ≡ name → n ≡ length ts → takes f n ≡ true
    → values ≡ Ok vs → called name (count (terms_view ts)) values ≡ call_value f (items_of vs)
called-is f name ts n values vs is len h e = rw (← is, count-is ts, ← len, h, e) refl

values-length : (env : Environment) (ts : syntax.Trees) (vs : List Tree) → meanings env ts ≡ Ok vs → length vs ≡ count ts
values-length env syntax.no_trees vs h = let none : [] ≡ vs = (cc) in rw (← none) refl
values-length env (syntax.tree t ts) vs h =
    let both = split_two (meaning env t) (meanings env ts) (λ v others. v ∷ others) vs h in
    let same : both.0 ∷ both.1 ≡ vs = both.4 in
    rw (← same) (ap suc (values-length env ts both.1 both.3))

-- as many values as expressions
pub values-count : (env : Environment) (ts : List Term) (vs : List Tree) → meanings env (terms_view ts) ≡ Ok vs → length vs ≡ length ts
values-count env ts vs h = values-length env (terms_view ts) vs h ∙ count-is ts

-- an answer that is another is given where that one is answered
pub gives-along : (a b : Answer) (result : Result Value EvalFault) → a ≡ b → Answers b result → Gives a result
gives-along a b (Ok v) e h = e ∙ h
gives-along a b (Err Overflow) e h = e ∙ h
gives-along a b (Err WrongKind) e h = e ∙ h
gives-along a b (Err Missing) e h = e ∙ h
gives-along a b (Err Arity) e h = e ∙ h
gives-along a b (Err TooLarge) e h = e ∙ h
gives-along a b (Err OutOfMemory) e h = tt
