-- Which function is called with which arguments.
use Rattle.std.proofs.Common.{◌≡◌, ◌<◌, ℕ, List, [], ◌∷◌, ◌++◌, length, length-append, true, refl, sym, ap, ◌∙◌, arith}
use Rattle.std.proofs.lemmas.Bool.Decides.{nat_tests}
use Rattle.std.proofs.lemmas.List.{nil_from_length}
use Rattle.tf_expr_operators.specs.declared.found.Found.{Found}
use Rattle.tf_expr_syntax.specs.declared.function.Function.{Function}
use Rattle.tf_expr_syntax.specs.declared.function.Function.TheVariants.{Length, Keys, Values, Merge, Concat, Join, ToSet}
use Rattle.tf_expr_operators.specs.Found.{found_items, found_tree}
use Rattle.tf_expr_operators.specs.Functions.{call_value, merge_value, concat_value, join_value}
use Rattle.tf_expr_syntax.specs.Function.{takes}

some_taken : (n : ℕ) → takes Merge n ≡ true → 0 < n
some_taken n h = grind (arith, nat_tests)

two_taken : (n : ℕ) → takes Join n ≡ true → n ≡ 2
two_taken n h = grind (arith, nat_tests)

-- `merge` and `concat` take one argument or more
pub call-Merge : (f : Function) (vs : List Found) → f ≡ Merge → takes f (length vs) ≡ true → call_value f (found_items vs) ≡ merge_value (found_items vs)
call-Merge Merge [] e h = absurd (let some = some_taken 0 h in omega arith)
call-Merge Merge (v ∷ vs) e h = refl
call-Merge _ vs e h = absurd (cc)

pub call-Concat : (f : Function) (vs : List Found) → f ≡ Concat → takes f (length vs) ≡ true → call_value f (found_items vs) ≡ concat_value (found_items vs)
call-Concat Concat [] e h = absurd (let some = some_taken 0 h in omega arith)
call-Concat Concat (v ∷ vs) e h = refl
call-Concat _ vs e h = absurd (cc)

joined : (front : List Found) (a b : Found) → length ((front ++ a ∷ []) ++ b ∷ []) ≡ 2 → front ≡ []
joined front a b h =
    let one = length-append front (a ∷ []) in
    let two = length-append (front ++ a ∷ []) (b ∷ []) in
    nil_from_length front (omega arith)

-- `join` takes two
pub call-Join : (f : Function) (vs front : List Found) (a b : Found) → (f ≡ Length → ⊥) → (f ≡ Keys → ⊥) → (f ≡ Values → ⊥) → (f ≡ ToSet → ⊥) → (f ≡ Merge → ⊥) → (f ≡ Concat → ⊥) → takes f (length vs) ≡ true
    → vs ≡ (front ++ a ∷ []) ++ b ∷ [] → call_value f (found_items vs) ≡ join_value (found_tree a) (found_tree b)
call-Join Length vs front a b n1 n2 n3 n6 n4 n5 h e = absurd (n1 refl)
call-Join Keys vs front a b n1 n2 n3 n6 n4 n5 h e = absurd (n2 refl)
call-Join Values vs front a b n1 n2 n3 n6 n4 n5 h e = absurd (n3 refl)
call-Join ToSet vs front a b n1 n2 n3 n6 n4 n5 h e = absurd (n6 refl)
call-Join Merge vs front a b n1 n2 n3 n6 n4 n5 h e = absurd (n4 refl)
call-Join Concat vs front a b n1 n2 n3 n6 n4 n5 h e = absurd (n5 refl)
call-Join Join vs front a b n1 n2 n3 n6 n4 n5 h e =
    let none = joined front a b (ap length (sym e) ∙ two_taken (length vs) h) in
    ap (λ xs. call_value Join (found_items xs)) (e ∙ ap (λ xs. (xs ++ a ∷ []) ++ b ∷ []) none)
