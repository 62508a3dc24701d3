-- Templates of one interpolation alone.
use Rattle.std.proofs.Common.{◌≡◌, ◌≢◌, refl, ℕ, true, false, List, [], ◌∷◌, length, get_or, Result, Ok, Err, String, string_bytes, Global}
use Rattle.tf_value_data.specs.Tree.{Tree, text}
use Rattle.tf_expr_syntax.specs.TemplateTree as syntax
use Rattle.tf_expr_syntax.specs.declared.tree.Term.{Term}
use Rattle.tf_expr_operators.specs.Answer.{Answer, item_behind}
use Rattle.tf_expr_operators.specs.Joining.{joined_value}
use Rattle.tf_expr_syntax.specs.declared.fault.EvalFault.{EvalFault}
use Rattle.tf_expr_eval.specs.Environment.{Environment}
use Rattle.tf_expr_eval.specs.Meaning.{and_then, between, laid, meaning, stands_alone, woven}

not_two : (s : List ℕ) (t : syntax.Tree) (r : List ℕ) (u : syntax.Tree) (ps : syntax.Parts) (last : List ℕ) → false ≡ stands_alone (syntax.part s t (syntax.part r u ps)) last
not_two [] t r u ps last = refl
not_two (c ∷ s) t r u ps last = refl

-- more or fewer parts than one don't stand alone
pub not_one : (ps : List (String Global × Term)) (last : List ℕ) → length ps ≢ 1 → false ≡ stands_alone (syntax.parts_view ps) last
not_one [] last h = refl
not_one (p ∷ []) last h = absurd (h refl)
not_one (p ∷ q ∷ ps) last h = not_two (string_bytes p.0) (syntax.view p.1) (string_bytes q.0) (syntax.view q.1) (syntax.parts_view ps) last

-- where there is a value, the first part has one
pub split : {A B : Type 0} → (r : Result A EvalFault) (next : A → Result B EvalFault) (b : B) → and_then r next ≡ Ok b → (a : A) × (r ≡ Ok a) × (next a ≡ Ok b)
split (Ok a) next b h = (a, refl, h)
split (Err e) next b h = absurd (cc)

-- where two parts make a value, each has one
pub split_two : {A B C : Type 0} → (r : Result A EvalFault) (rest : Result B EvalFault) (make : A → B → C) (c : C) → and_then r (λ a. and_then rest (λ b. Ok (make a b))) ≡ Ok c
    → (a : A) × (b : B) × (r ≡ Ok a) × (rest ≡ Ok b) × (make a b ≡ c)
split_two (Ok a) (Ok b) make c h = (a, b, refl, refl, (cc))
split_two (Ok a) (Err e) make c h = absurd (cc)
split_two (Err e) rest make c h = absurd (cc)

sole_value : (r : Answer) → and_then (and_then r (λ v. Ok (([], v) ∷ []))) (λ valued. woven valued []) ≡ r
sole_value (Ok v) = refl
sole_value (Err e) = refl

sole : (env : Environment) (s : List ℕ) (t : syntax.Tree) (last : List ℕ) → stands_alone (syntax.part s t syntax.no_parts) last ≡ true
    → and_then (and_then (meaning env t) (λ v. Ok ((s, v) ∷ []))) (λ valued. woven valued last) ≡ meaning env t
sole env [] t [] h = sole_value (meaning env t)
sole env [] t (c ∷ last) h = absurd (cc)
sole env (c ∷ s) t last h = absurd (cc)

-- an interpolation alone has the value that its template has
pub alone_is : (env : Environment) (ps : List (String Global × Term)) (last : List ℕ) (d : String Global × Term) → stands_alone (syntax.parts_view ps) last ≡ true
    → and_then (between env (syntax.parts_view ps)) (λ valued. woven valued last) ≡ meaning env (syntax.view (get_or ps 0 d).1)
alone_is env [] last d h = absurd (cc)
alone_is env (p ∷ []) last d h = sole env (string_bytes p.0) (syntax.view p.1) last h
alone_is env (p ∷ q ∷ ps) last d h =
    let two = not_two (string_bytes p.0) (syntax.view p.1) (string_bytes q.0) (syntax.view q.1) (syntax.parts_view ps) last in absurd (cc)

none_valued : (env : Environment) (ps : syntax.Parts) → between env ps ≡ Ok [] → ps ≡ syntax.no_parts
none_valued env syntax.no_parts h = refl
none_valued env (syntax.part s t ps) h =
    let both = split_two (meaning env t) (between env ps) (λ v valued. (s, v) ∷ valued) [] h in
    let wrong : (s, both.0) ∷ both.1 ≡ [] = both.4 in absurd (cc)

woven_is : (env : Environment) (s : List ℕ) (t : syntax.Tree) (ps : syntax.Parts) (v : Tree) (rest : List (List ℕ × Tree)) (last : List ℕ) → stands_alone (syntax.part s t ps) last ≡ false
    → between env ps ≡ Ok rest → woven ((s, v) ∷ rest) last ≡ joined_value (item_behind (laid ((s, v) ∷ rest)) (text last))
woven_is env (c ∷ s) t ps v rest last h e = refl
woven_is env [] t ps v (x ∷ rest) last h e = refl
woven_is env [] t ps v [] (c ∷ last) h e = refl
woven_is env [] t ps v [] [] h e = let none = none_valued env ps e in absurd (cc)

-- a template that doesn't stand alone is joined
pub joined_is : (env : Environment) (ps : syntax.Parts) (last : List ℕ) (valued : List (List ℕ × Tree)) → stands_alone ps last ≡ false → between env ps ≡ Ok valued
    → woven valued last ≡ joined_value (item_behind (laid valued) (text last))
joined_is env syntax.no_parts last valued h e = let none : [] ≡ valued = (cc) in rw (← none) refl
joined_is env (syntax.part s t ps) last valued h e =
    let both = split_two (meaning env t) (between env ps) (λ v others. (s, v) ∷ others) valued e in
    let same : (s, both.0) ∷ both.1 ≡ valued = both.4 in
    rw (← same) (woven_is env s t ps both.0 both.1 last h both.3)
