-- Lists of places that are made one place after another.
use Rattle.std.proofs.Common.{◌≡◌, ◌∙◌, ◌&&◌, ◌<◌, ◌+◌, ◌⊎◌, ℕ, Bool, true, false, cond, List, [], ◌∷◌, ◌++◌, Contains, length, get_or, take, Option, Some, None, sym, ap, subst, inl, inr}
use Rattle.std.proofs.lemmas.List.{append-nil}
use Rattle.std.proofs.lemmas.List.Elements.{Contains-push_cases, filter_map-append}
use Rattle.std.specs.List.{filter_map}
use Rattle.std.specs.Option.{option_to_list}
use Rattle.tf_walk_buffers.proofs.Lists.{take-next}
use Rattle.tf_walk_buffers.proofs.Pairs.{single}

-- what is found for one place more
pub found-at : {A : Type 0} (f : ℕ → Option A) (xs : List ℕ) (i x : ℕ) → i < length xs → x ≡ get_or xs i x → filter_map f (take (i + 1) xs) ≡ filter_map f (take i xs) ++ option_to_list (f x)
found-at f xs i x h e =
    ap (filter_map f) (take-next xs i x h e) ∙ filter_map-append f (take i xs) (x ∷ []) ∙ ap (λ ys. filter_map f (take i xs) ++ ys) (single (f x))

-- what is found for a list that a place was added to, where it is needed and the list is asked for
pub found-added : {A : Type 0} (f : ℕ → Option A) (old new : List ℕ) (needed asked : Bool) (n : ℕ) → new ≡ old ++ cond (needed && asked) (n ∷ []) [] → asked ≡ true
    → filter_map f new ≡ filter_map f old ++ cond needed (option_to_list (f n)) []
found-added f old new true true n e h = ap (filter_map f) e ∙ filter_map-append f old (n ∷ []) ∙ ap (λ ys. filter_map f old ++ ys) (single (f n))
found-added f old new false true n e h = ap (filter_map f) e ∙ filter_map-append f old []
found-added f old new needed false n e h = absurd (cc)

-- where nothing is found for a place, the list stays
pub nothing-added : {A : Type 0} (o : Option A) (old : List A) (needed : Bool) → o ≡ None → old ≡ old ++ cond needed (option_to_list o) []
nothing-added None old true e = sym (append-nil old)
nothing-added None old false e = sym (append-nil old)
nothing-added (Some a) old needed e = absurd (cc)

-- a list that a place was added to has no other new one
pub place-added : (old new : List ℕ) (yes : Bool) (n m : ℕ) → new ≡ old ++ cond yes (n ∷ []) [] → Contains new m → Contains old m ⊎ (m ≡ n)
place-added old new true n m e h = elim (Contains-push_cases old n m (subst (λ xs. Contains xs m) e h)) [ inl before ↦ inl before | inr here ↦ inr (sym here) ]
place-added old new false n m e h = inl (subst (λ xs. Contains xs m) (e ∙ append-nil old) h)
