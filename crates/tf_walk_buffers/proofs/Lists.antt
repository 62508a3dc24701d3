-- Lists that are gone through one by one.
use Rattle.std.proofs.Common.{◌≡◌, ◌∙◌, ◌<◌, ◌+◌, ℕ, zero, suc, List, [], ◌∷◌, ◌++◌, length, map, get_or, take, sym, ap, subst, arith}
use Rattle.std.proofs.lemmas.List.{map-append}
use Rattle.std.specs.List.{AllByRecursion, range_with_len}

take_at : {A : Type 0} (xs : List A) (i : ℕ) (x : A) → i < length xs → x ≡ get_or xs i x → take (suc i) xs ≡ take i xs ++ x ∷ []
take_at [] i x h e = absurd (omega arith)
take_at (y ∷ ys) zero x h e = ap (λ z. z ∷ []) (sym e)
take_at (y ∷ ys) (suc i) x h e = ap (λ zs. y ∷ zs) (take_at ys i x (omega arith) e)

-- what was seen ends with it then
pub take-next : {A : Type 0} (xs : List A) (i : ℕ) (x : A) → i < length xs → x ≡ get_or xs i x → take (i + 1) xs ≡ take i xs ++ x ∷ []
take-next xs i x h e = let next : i + 1 ≡ suc i = omega arith in ap (λ (k : ℕ). take k xs) next ∙ take_at xs i x h e

-- what is made of those that were seen, with what is made of one more
pub made-next : {A B C D : Type 0} (f : A → D) (g : C → D) (h : B → C) (made : List A) (xs : List B) (i : ℕ) (y : A) (x : B) → i < length xs → x ≡ get_or xs i x → map f made ≡ map g (map h (take i xs)) → f y ≡ g (h x)
    → map f (made ++ y ∷ []) ≡ map g (map h (take (i + 1) xs))
made-next f g h made xs i y x below e so_far one =
    map-append f made (y ∷ []) ∙ ap (λ zs. zs ++ f y ∷ []) so_far ∙ ap (λ z. map g (map h (take i xs)) ++ z ∷ []) one
    ∙ sym (map-append g (map h (take i xs)) (h x ∷ [])) ∙ ap (map g) (sym (map-append h (take i xs) (x ∷ []))) ∙ ap (λ zs. map g (map h zs)) (sym (take-next xs i x below e))

-- what holds of all holds of one
pub all-at : {A B : Type 0} (P : B → Type 0) (f : A → B) (xs : List A) (i : ℕ) (x : A) → i < length xs → x ≡ get_or xs i x → AllByRecursion P (map f xs) → P (f x)
all-at P f [] i x h e all = absurd (omega arith)
all-at P f (y ∷ ys) zero x h e all = subst (λ z. P (f z)) (sym e) all.0
all-at P f (y ∷ ys) (suc i) x h e all = all-at P f ys i x (omega arith) e all.1

all_one_more : {A : Type 0} (P Q : A → Type 0) (xs : List A) (x : A) → ((y : A) → P y → Q y) → AllByRecursion P xs → Q x → AllByRecursion Q (xs ++ x ∷ [])
all_one_more P Q [] x keep all one = (one, tt)
all_one_more P Q (y ∷ ys) x keep all one = (keep y all.0, all_one_more P Q ys x keep all.1 one)

-- what holds of those that were seen holds of one more
pub all-next : {A B : Type 0} (P Q : B → Type 0) (f : A → B) (xs : List A) (i : ℕ) (x : A) → i < length xs → x ≡ get_or xs i x → ((y : B) → P y → Q y) → AllByRecursion P (map f (take i xs)) → Q (f x) → AllByRecursion Q (map f (take (i + 1) xs))
all-next P Q f xs i x below e keep all one =
    let seen : map f (take (i + 1) xs) ≡ map f (take i xs) ++ f x ∷ [] = ap (map f) (take-next xs i x below e) ∙ map-append f (take i xs) (x ∷ []) in
    subst (AllByRecursion Q) (sym seen) (all_one_more P Q (map f (take i xs)) (f x) keep all one)

range_push : (a n : ℕ) → range_with_len a (suc n) ≡ range_with_len a n ++ (a + n) ∷ []
range_push a zero = let same : a ≡ a + 0 = omega arith in ap (λ k. k ∷ []) same
range_push a (suc n) =
    let rest : range_with_len (a + 1) (suc n) ≡ range_with_len (a + 1) n ++ ((a + 1) + n) ∷ [] = range_push (a + 1) n in
    let last : (a + 1) + n ≡ a + suc n = omega arith in
    ap (λ xs. a ∷ xs) (rest ∙ ap (λ x. range_with_len (a + 1) n ++ x ∷ []) last)

-- one place more
pub range-next : (n : ℕ) → range_with_len 0 (n + 1) ≡ range_with_len 0 n ++ n ∷ []
range-next n =
    let next : n + 1 ≡ suc n = omega arith in
    let last : 0 + n ≡ n = omega arith in
    ap (λ k. range_with_len 0 k) next ∙ range_push 0 n ∙ ap (λ k. range_with_len 0 n ++ k ∷ []) last
