-- The name of the attribute at a place of an object.
use Rattle.std.proofs.Common.{◌≡◌, ◌≤◌, ℕ, zero, suc, Bool, true, List, [], ◌∷◌, length, String, string_bytes, sym, ap, ◌∙◌, arith}
use Rattle.std.proofs.Common.{Global, Bor}
use Rattle.std.specs.Prelude.{Option, Result, Ok, is_ok, if◌then◌else◌, ◌++◌, MatchOption, slice_index_or}
use Rattle.std.specs.Iterator.{Yields}
use Rattle.std.specs.List.{list_all}
use Rattle.tf_value_data.specs.Tree.{keys_of, entries_view}
use Rattle.tf_value_data.proofs.Conjunction.{and-first, and-second}
use Rattle.tf_value_data.specs.declared.value.Value.{Value}

abbrev Pairs : Type 0
Pairs = List (String Global × Value)

abbrev Given : Type 0
Given = Bor (String Global) × Bor Value

-- one step through the entries
abbrev pub next : Pairs → Option Given → Pairs → Type 0
next s r t = MatchOption r ((s ≡ []) × (t ≡ [])) (λ x. s ≡ (x.0.now, x.1.now) ∷ t)

abbrev keys : Pairs → List (List ℕ)
keys s = keys_of (entries_view s)

pub named-there : (s t rest : Pairs) (xs : List Given) (e : String Global × Value) → Yields next s xs t → t ≡ e ∷ rest → slice_index_or (keys s) (length xs) [] ≡ string_bytes e.0
named-there s t rest [] e y h = ap (λ p. slice_index_or (keys p) 0 []) (y ∙ h)
named-there s t rest (x ∷ xs) e y h =
    ap (λ p. slice_index_or (keys p) (suc (length xs)) []) y.1 ∙ named-there y.0 t rest xs e y.2 h

-- what holds of all names holds of that one
pub holds-there : (p : List ℕ → Bool) (s t rest : Pairs) (xs : List Given) (e : String Global × Value) → Yields next s xs t → t ≡ e ∷ rest → list_all p (keys s) ≡ true → p (string_bytes e.0) ≡ true
holds-there p s t rest [] e y h a = and-first _ _ (sym (ap (λ q. list_all p (keys q)) (y ∙ h)) ∙ a)
holds-there p s t rest (x ∷ xs) e y h a =
    holds-there p y.0 t rest xs e y.2 h (and-second _ _ (sym (ap (λ q. list_all p (keys q)) y.1) ∙ a))

-- there is no name behind the last
pub named-beyond : (s t : Pairs) (xs : List Given) (place : ℕ) → Yields next s xs t → t ≡ [] → length xs ≤ place → slice_index_or (keys s) place [] ≡ []
named-beyond s t [] place y h k = ap (λ p. slice_index_or (keys p) place []) (y ∙ h)
named-beyond s t (x ∷ xs) zero y h k = absurd (omega arith)
named-beyond s t (x ∷ xs) (suc place) y h k =
    ap (λ p. slice_index_or (keys p) (suc place) []) y.1 ∙ named-beyond y.0 t xs place y.2 h (omega arith)

-- what a text that had room holds after a push
pub pushed : {A B : Type 0} (r : Result A B) (a : A) (new old more : List ℕ) → new ≡ (if is_ok r then old ++ more else old) → r ≡ Ok a → new ≡ old ++ more
pushed r a new old more e h = e ∙ ap (λ x. if is_ok x then old ++ more else old) h
