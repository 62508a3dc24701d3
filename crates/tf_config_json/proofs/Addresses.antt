-- A text without a dot is no address.
use Rattle.std.proofs.Common.{◌≡◌, ◌||◌, ◌+◌, ℕ, suc, Bool, true, false, not, cond, List, [], ◌∷◌, None, length, refl, arith}
use Rattle.std.specs.List.{list_any, position_or_len}
use Rattle.std.specs.Prelude.{◌==◌}
use Rattle.tf_config_json.specs.Words.{addr_in}

none_at : (b : Bool) (n m : ℕ) (rest : Bool) → cond (not b) (1 + n) 0 ≡ suc m → (n ≡ m → rest ≡ false) → (b || rest) ≡ false
none_at true n m rest h later = absurd (omega (arith, h))
none_at false n m rest h later = later (omega (arith, h))

none_passes : (p : ℕ → Bool) (xs : List ℕ) → position_or_len p xs ≡ length xs → list_any p xs ≡ false
none_passes p [] h = refl
none_passes p (x ∷ xs) h = none_at (p x) (position_or_len p xs) (length xs) (list_any p xs) h (none_passes p xs)

pub no_address : (text : List ℕ) → position_or_len (λ c. c == 46) text ≡ length text → None ≡ addr_in text
no_address text h = rw (none_passes (λ c. c == 46) text h) refl
