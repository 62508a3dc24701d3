-- A copy is seen as what it is a copy of.
use Rattle.std.proofs.Common.{◌≡◌, List, [], ◌∷◌, map, refl, ap₂}
use Rattle.std.specs.List.{AllZip}

pub copied : {A B : Type 0} (C : A → A → Type 0) (f : A → B) → ((x y : A) → C x y → f y ≡ f x) → (xs ys : List A) → AllZip C xs ys → map f ys ≡ map f xs
copied C f same [] [] h = refl
copied C f same (x ∷ xs) (y ∷ ys) h = ap₂ (λ z zs. z ∷ zs) (same x y h.0) (copied C f same xs ys h.1)
copied C f same [] (y ∷ ys) h = absurd h
copied C f same (x ∷ xs) [] h = absurd h
