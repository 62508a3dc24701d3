-- A text stays one where its control characters become spaces.
use Rattle.std.proofs.Common.{◌≡◌, ◌<◌, ◌≤◌, ℕ, zero, suc, ◌+◌, ◌/◌, Bool, true, false, cond, ltb, List, [], ◌∷◌, ◌++◌, length, get_or, set, map, take, drop, IsUtf8, refl, ap, ap₂, sym, ◌∙◌, arith}
use Rattle.std.proofs.lemmas.Bool.Decides.{nat_tests}
use Rattle.std.proofs.lemmas.List.{map-append}
use Rattle.tf_value_data.proofs.Conjunction.{and-first, and-second}
use lib.Utf8.{scalar, scalars, encode, encodes, next}
use Rattle.tf_walk_report.specs.Diagnostics.{blanked, in_one_line}

blanked-high : (b : ℕ) → 128 ≤ b → blanked b ≡ b
blanked-high b h = grind (arith, nat_tests)

blanked-low : (b : ℕ) → b < 128 → blanked b < 128
blanked-low b h = grind (arith, nat_tests)

two_high : (a b : ℕ) → 128 ≤ a → 128 ≤ b → map blanked (a ∷ b ∷ []) ≡ a ∷ b ∷ []
two_high a b h k = ap₂ (λ x y. x ∷ y ∷ []) (blanked-high a h) (blanked-high b k)

three_high : (a b c : ℕ) → 128 ≤ a → 128 ≤ b → 128 ≤ c → map blanked (a ∷ b ∷ c ∷ []) ≡ a ∷ b ∷ c ∷ []
three_high a b c h k m = ap₂ (λ x ys. x ∷ ys) (blanked-high a h) (two_high b c k m)

four_high : (a b c d : ℕ) → 128 ≤ a → 128 ≤ b → 128 ≤ c → 128 ≤ d → map blanked (a ∷ b ∷ c ∷ d ∷ []) ≡ a ∷ b ∷ c ∷ d ∷ []
four_high a b c d h k m n = ap₂ (λ x ys. x ∷ ys) (blanked-high a h) (three_high b c d k m n)

either_stays : (x : Bool) (a b : List ℕ) → map blanked a ≡ a → map blanked b ≡ b → map blanked (cond x a b) ≡ cond x a b
either_stays true a b e f = e
either_stays false a b e f = f

abbrev wide : ℕ → List ℕ
wide c = cond (ltb c 2048) ((192 + c / 64) ∷ next c ∷ []) (cond (ltb c 65536) ((224 + c / 4096) ∷ next (c / 64) ∷ next c ∷ []) ((240 + c / 262144) ∷ next (c / 4096) ∷ next (c / 64) ∷ next c ∷ []))

wide_stays : (c : ℕ) → map blanked (wide c) ≡ wide c
wide_stays c =
    either_stays (ltb c 2048) _ _ (two_high (192 + c / 64) (next c) (omega arith) (omega arith))
    (either_stays (ltb c 65536) _ _ (three_high (224 + c / 4096) (next (c / 64)) (next c) (omega arith) (omega arith) (omega arith))
    (four_high (240 + c / 262144) (next (c / 4096)) (next (c / 64)) (next c) (omega arith) (omega arith) (omega arith) (omega arith)))

letter_at : (low : Bool) (c : ℕ) → ltb c 128 ≡ low → map blanked (encode c) ≡ encode (blanked c)
unfolding encode
letter_at true c e =
    let small : c < 128 = grind (arith, nat_tests) in
    let still : ltb (blanked c) 128 ≡ true = let k = blanked-low c small in grind (arith, nat_tests) in
    rw (e, still) refl
letter_at false c e =
    let large : 128 ≤ c = grind (arith, nat_tests) in
    rw (blanked-high c large, e) (wide_stays c)

scalar_at : (c : ℕ) → scalar c ≡ true → scalar (blanked c) ≡ true
scalar_at c e = at (ltb c 32) refl
  where
    at : (b : Bool) → ltb c 32 ≡ b → scalar (cond b 32 c) ≡ true
    at true h = refl
    at false h = e

letters : (cs : List ℕ) → scalars cs ≡ true → (scalars (map blanked cs) ≡ true) × (encodes (map blanked cs) ≡ map blanked (encodes cs))
letters [] e = (refl, refl)
letters (c ∷ cs) e =
    let rest = letters cs (and-second (scalar c) (scalars cs) e) in
    let here = scalar_at c (and-first (scalar c) (scalars cs) e) in
    (rw (here, rest.0) refl, ap₂ (λ x y. x ++ y) (sym (letter_at (ltb c 128) c refl)) rest.1 ∙ sym (map-append blanked (encode c) (encodes cs)))

-- so it is UTF-8 as before
pub blanked-utf8 : (bs : List ℕ) → IsUtf8 bs → IsUtf8 (in_one_line bs)
blanked-utf8 bs u = let on = letters u.0 u.1.0 in (map blanked u.0, (on.0, on.1 ∙ ap (map blanked) u.1.1))

-- a byte after another
pub next_byte : (old : List ℕ) (i : ℕ) → i < length old → get_or (in_one_line (take i old) ++ drop i old) i 0 ≡ get_or old i 0
next_byte [] i h = absurd (omega arith)
next_byte (x ∷ xs) zero h = refl
next_byte (x ∷ xs) (suc i) h = next_byte xs i (omega arith)

pub one_blanked : (old : List ℕ) (i : ℕ) → i < length old → set (in_one_line (take i old) ++ drop i old) i (blanked (get_or old i 0)) ≡ in_one_line (take (suc i) old) ++ drop (suc i) old
one_blanked [] i h = absurd (omega arith)
one_blanked (x ∷ xs) zero h = refl
one_blanked (x ∷ xs) (suc i) h = ap (λ ys. blanked x ∷ ys) (one_blanked xs i (omega arith))
