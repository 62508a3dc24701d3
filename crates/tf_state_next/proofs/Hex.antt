-- The text of a key: what is written with width 8, and that no two serials have one text.
use Rattle.std.proofs.Common.{◌≡◌, ℕ, zero, suc, ◌+◌, ◌-◌, ◌/◌, ◌%◌, ◌^◌, ◌<◌, ◌≤◌, Bool, true, false, cond, List, [], ◌∷◌, ◌++◌, length, refl, sym, ap, ap₂, ◌∙◌, arith, append_assoc}
use Rattle.std.proofs.lemmas.Bool.Decides.{nat_tests}
use Rattle.std.proofs.lemmas.List.{append-nil, length_push, replicate-append-replicate, same_from_push}
use Rattle.std.proofs.Math.Nat.{pow-suc}
use Rattle.std.specs.Fmt.{digit_glyph, digits_onto, digits, padded_integral, format_spec, char_count}
use Rattle.std.proofs.lemmas.List.Folds.{list_all-append}
use Rattle.std.specs.List.{list_all}
use Rattle.std.specs.Prelude.{◌==◌, ◌&&◌, replicate}
use Rattle.tf_state_next.specs.DeposedKey.{hex_digits, is_hex, is_key, key_text, serial_after}

-- the digits of nothing are zeros
zeros : (k : ℕ) → hex_digits k 0 ≡ replicate k 48
zeros zero = refl
zeros (suc k) =
    let more : k + 1 ≡ suc k = omega arith in
    ap (λ s. s ++ 48 ∷ []) (zeros k) ∙ replicate-append-replicate k 1 48 ∙ ap (λ n. replicate n 48) more

-- the digits of a number before others, and those that are written of it
abbrev glyph : ℕ → ℕ
glyph n = digit_glyph false (n % 16)

abbrev behind_zeros : ℕ → List ℕ → List ℕ → List ℕ
behind_zeros k acc ds = replicate (k + length acc - length ds) 48 ++ ds

spelled_at : (k f n : ℕ) (acc : List ℕ) (b : Bool) → (n / 16 == 0) ≡ b
    → (b ≡ false → hex_digits k (n / 16) ++ (glyph n ∷ acc) ≡ behind_zeros k (glyph n ∷ acc) (digits_onto f 16 false (n / 16) (glyph n ∷ acc)))
    → hex_digits (suc k) n ++ acc ≡ behind_zeros (suc k) acc (digits_onto (suc f) 16 false n acc)
spelled_at k f n acc true e rest =
    let none : n / 16 ≡ 0 = grind (arith, nat_tests) in
    let short : k ≡ suc k + length acc - length (glyph n ∷ acc) = omega arith in
    append_assoc (hex_digits k (n / 16)) (glyph n ∷ []) acc ∙ ap (λ z. z ++ glyph n ∷ acc) (ap (hex_digits k) none ∙ zeros k)
    ∙ ap (λ c. replicate c 48 ++ glyph n ∷ acc) short
    ∙ sym (ap (λ t. behind_zeros (suc k) acc (cond t (glyph n ∷ acc) (digits_onto f 16 false (n / 16) (glyph n ∷ acc)))) e)
spelled_at k f n acc false e rest =
    let ds = digits_onto f 16 false (n / 16) (glyph n ∷ acc) in
    let short : k + length (glyph n ∷ acc) ≡ suc k + length acc = omega arith in
    append_assoc (hex_digits k (n / 16)) (glyph n ∷ []) acc ∙ rest refl
    ∙ ap (λ c. replicate (c - length ds) 48 ++ ds) short
    ∙ sym (ap (λ t. behind_zeros (suc k) acc (cond t (glyph n ∷ acc) ds)) e)

spelled : (k f n : ℕ) (acc : List ℕ) → n < 16 ^ suc k → k ≤ f → hex_digits (suc k) n ++ acc ≡ behind_zeros (suc k) acc (digits_onto (suc f) 16 false n acc)
spelled zero f n acc small fuel = spelled_at zero f n acc (n / 16 == 0) refl (λ e. let some : 0 < n / 16 = grind (arith, nat_tests) in absurd (omega (arith, pow-suc 16 0)))
spelled (suc k) zero n acc small fuel = absurd (omega arith)
spelled (suc k) (suc f) n acc small fuel =
    spelled_at (suc k) (suc f) n acc (n / 16 == 0) refl (λ e. spelled k f (n / 16) (glyph n ∷ acc) (omega (arith, pow-suc 16 (suc k))) (omega arith))

written : (n : ℕ) → padded_integral (format_spec 32 0 4 8 (2 ^ 64 - 1)) false [] (digits 16 false n) ≡ replicate (8 - length (digits 16 false n)) 48 ++ digits 16 false n
unfolding padded_integral char_count
written n =
    let short : 8 - length (digits 16 false n) - 0 - 0 ≡ 8 - length (digits 16 false n) = omega arith in
    ap (λ k. replicate k 48 ++ (digits 16 false n ++ [])) short
    ∙ ap (λ ds. replicate (8 - length (digits 16 false n)) 48 ++ ds) (append-nil (digits 16 false n))

-- what is written of a serial with width 8
pub key_written : (n : ℕ) → n < 2 ^ 32 → padded_integral (format_spec 32 0 4 8 (2 ^ 64 - 1)) false [] (digits 16 false n) ≡ key_text n
unfolding key_text digits
key_written n small = written n ∙ sym (sym (append-nil (hex_digits 8 n)) ∙ spelled 7 63 n [] (omega arith) (omega arith))

glyphs : (a b : ℕ) → a < 16 → b < 16 → digit_glyph false a ≡ digit_glyph false b → a ≡ b
glyphs a b h g e = grind (arith, nat_tests)

digits_same : (k m n : ℕ) → m < 16 ^ k → n < 16 ^ k → hex_digits k m ≡ hex_digits k n → m ≡ n
digits_same zero m n small few e = omega arith
digits_same (suc k) m n small few e =
    let parts = same_from_push (hex_digits k (m / 16)) (hex_digits k (n / 16)) (glyph m) (glyph n) e in
    let front : m / 16 ≡ n / 16 = digits_same k (m / 16) (n / 16) (omega (arith, pow-suc 16 k)) (omega (arith, pow-suc 16 k)) parts.0 in
    let last : m % 16 ≡ n % 16 = glyphs (m % 16) (n % 16) (omega arith) (omega arith) parts.1 in
    omega arith

-- no two serials have one text
pub keys_apart : (m n : ℕ) → m < 2 ^ 32 → n < 2 ^ 32 → key_text m ≡ key_text n → m ≡ n
unfolding key_text
keys_apart m n small few e = digits_same 8 m n (omega arith) (omega arith) e

-- less than a whole round after a serial, no two are one
pub steps_apart : (serial i j : ℕ) → i < 2 ^ 32 → j < 2 ^ 32 → key_text (serial_after serial i) ≡ key_text (serial_after serial j) → i ≡ j
steps_apart serial i j small few e =
    let same = keys_apart (serial_after serial i) (serial_after serial j) (omega arith) (omega arith) e in omega arith

glyph_hex : (d : ℕ) → d < 16 → is_hex (digit_glyph false d) ≡ true
glyph_hex d h = grind (arith, nat_tests)

all_hex : (k n : ℕ) → list_all is_hex (hex_digits k n) ≡ true
all_hex zero n = refl
all_hex (suc k) n = list_all-append is_hex (hex_digits k (n / 16)) (glyph n ∷ []) ∙ ap₂ (λ a b. a && (b && true)) (all_hex k (n / 16)) (glyph_hex (n % 16) (omega arith))

digits_length : (k n : ℕ) → length (hex_digits k n) ≡ k
digits_length zero n = refl
digits_length (suc k) n = length_push (hex_digits k (n / 16)) (glyph n) ∙ ap (λ l. l + 1) (digits_length k (n / 16)) ∙ omega arith

-- a text is eight lower-case hex digits
pub text_key : (n : ℕ) → is_key (key_text n) ≡ true
unfolding key_text
text_key n = ap₂ (λ l a. (l == 8) && a) (digits_length 8 n) (all_hex 8 n)
