-- The table of names: what is looked up in it, and what is found on the way through lists and maps.
use Rattle.std.proofs.Common.{◌≡◌, ℕ, zero, suc, ◌+◌, ◌<◌, ◌≤◌, List, [], ◌∷◌, ◌++◌, Option, None, Some, option_map, length, get_or, drop, drop-cons, map, refl, sym, ap, ◌∙◌, add-one, arith, append_assoc}
use Rattle.tf_config_data.specs.Names.{NameView, meant_at, place_of, place_before, places}
use Rattle.tf_expr_syntax.specs.TemplateNames.{Pair}
use Rattle.tf_config_names.specs.Table.{declaration_of}
use Rattle.tf_config_names.specs.declared.declaration.Declaration.{Declaration}

-- what is left of a list, one element further on
pub drop_next : {A : Type 0} → (all : List A) (i : ℕ) (x : A) → i < length all → x ≡ get_or all i x → drop i all ≡ x ∷ drop (i + 1) all
drop_next all i x within is = rw add-one (drop-cons all i x within ∙ ap (λ y. y ∷ drop (suc i) all) (sym is))

pub drop_all : {A : Type 0} → (all : List A) (i : ℕ) → length all ≤ i → drop i all ≡ []
drop_all [] i h = drop_none i
  where
    drop_none : {A : Type 0} → (i : ℕ) → drop {A = A} i [] ≡ []
    drop_none zero = refl
    drop_none (suc i) = refl
drop_all (x ∷ all) zero h = absurd (omega arith)
drop_all (x ∷ all) (suc i) h = drop_all all i (omega arith)

-- what stands at a place means what the name there does
pub meant_at-map : (ns : List Declaration) (i : ℕ) (n : Declaration) → i < length ns → n ≡ get_or ns i n → meant_at (map declaration_of ns) i ≡ Some (declaration_of n).meant
meant_at-map [] i n h is = absurd (omega arith)
meant_at-map (x ∷ ns) zero n h is = ap (λ y. Some (declaration_of y).meant) (sym is)
meant_at-map (x ∷ ns) (suc i) n h is = meant_at-map ns i n (omega arith) is

-- the place of a name among those from a position on
abbrev pub place_from : List Declaration → ℕ → Pair → Option ℕ
place_from all i pair = option_map (λ k. k + i) (place_of (map declaration_of (drop i all)) pair)

-- the places of names one after another
place_before-append : (o : Option ℕ) (xs ys : List ℕ) → place_before o (xs ++ ys) ≡ place_before o xs ++ ys
place_before-append None xs ys = refl
place_before-append (Some n) xs ys = refl

pub places-append : (names : List NameView) (ps qs : List Pair) → places names (ps ++ qs) ≡ places names ps ++ places names qs
places-append names [] qs = refl
places-append names (p ∷ ps) qs = ap (place_before (place_of names p)) (places-append names ps qs) ∙ place_before-append (place_of names p) (places names ps) (places names qs)

-- what is found so far, and the places of what is left, are all there is to find
abbrev pub Adds : List NameView → List ℕ → List Pair → List ℕ → List Pair → Type 0
Adds names first all found left = found ++ places names left ≡ first ++ places names all

pub adds_more : (names : List NameView) (first : List ℕ) (all : List Pair) (found next : List ℕ) (own left : List Pair)
    → Adds names first all found (own ++ left) → next ≡ found ++ places names own → Adds names first all next left
adds_more names first all found next own left h step =
    rw (step, append_assoc found (places names own) (places names left), ← places-append names own left) h

pub adds_all : (names : List NameView) (first : List ℕ) (all : List Pair) (found : List ℕ) → Adds names first all found [] → found ≡ first ++ places names all
adds_all names first all found h = sym (append_none found) ∙ h
  where
    append_none : (xs : List ℕ) → xs ++ [] ≡ xs
    append_none [] = refl
    append_none (x ∷ xs) = ap (λ ys. x ∷ ys) (append_none xs)

pub adds_three : (names : List NameView) (first one two three : List ℕ) (a b c : List Pair) → one ≡ first ++ places names a → two ≡ one ++ places names b → three ≡ two ++ places names c
    → three ≡ first ++ places names (a ++ b ++ c)
adds_three names first one two three a b c p q r =
    rw (r, q, p, places-append names (a ++ b) c, places-append names a b, append_assoc first (places names a) (places names b), append_assoc first (places names a ++ places names b) (places names c)) refl
