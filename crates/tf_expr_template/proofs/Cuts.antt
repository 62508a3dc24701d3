-- Where a text may be cut.
use Rattle.std.proofs.Common.{◌≡◌, ℕ, zero, suc, ◌<◌, ◌≤◌, Bool, true, false, inl, inr, List, length, get_or, subst, sym, arith, add-one, lt_of_not-le}
use Rattle.std.proofs.lemmas.Bool.Decides.{nat_tests}
use Rattle.std.proofs.lemmas.Bool.{cases_lt}
use Rattle.std.proofs.lemmas.List.{get_or_past}
use Rattle.std.proofs.lemmas.List.Sums.{prefix_len-le-length, prefix_len_passes, prefix_len_stops}
use Rattle.std.proofs.lemmas.Str.{IsCharBoundary-start, IsCharBoundary-after_ascii, IsCharBoundary-before_ascii, IsCharBoundary-end}
use Rattle.std.specs.List.{prefix_len}
use Rattle.std.specs.Str.{IsUtf8, IsCharBoundary}
use Rattle.tf_config_address.specs.Name.{continues_name}
use Rattle.tf_expr_template.specs.Bytes.{is_space, is_digit, is_plain}

pub after_one : (s : List ℕ) (k : ℕ) → IsUtf8 s → k < length s → get_or s k 0 < 128 → IsCharBoundary s (suc k)
after_one s k u within small = subst (IsCharBoundary s) (add-one k) (IsCharBoundary-after_ascii s k u within small)

-- behind bytes that are all ASCII
pub after_run : (p : ℕ → Bool) → ((b : ℕ) → p b ≡ true → b < 128) → (s : List ℕ) → IsUtf8 s → (n : ℕ) → n ≡ prefix_len p s → IsCharBoundary s n
after_run p ascii s u zero e = IsCharBoundary-start s u
after_run p ascii s u (suc k) e =
    let below : k < prefix_len p s = omega arith in
    after_one s k u (omega (arith, prefix_len-le-length p s)) (ascii (get_or s k 0) (prefix_len_passes p s k 0 below))

-- a byte that isn't 0 stands within the text
pub within_text : (s : List ℕ) (k : ℕ) → 0 < get_or s k 0 → k < length s
within_text s k h = lt_of_not-le (λ past. omega (arith, get_or_past s k 0 past))

-- behind one byte or two
pub after_sign : (s : List ℕ) (n : ℕ) → IsUtf8 s → n ≤ 2 → (0 < n → (0 < get_or s 0 0) × (get_or s 0 0 < 128)) → (1 < n → (0 < get_or s 1 0) × (get_or s 1 0 < 128)) → IsCharBoundary s n
after_sign s zero u most one two = IsCharBoundary-start s u
after_sign s (suc zero) u most one two =
    let h = one (omega arith) in after_one s 0 u (within_text s 0 h.0) h.1
after_sign s (suc (suc zero)) u most one two =
    let h = two (omega arith) in after_one s 1 u (within_text s 1 h.0) h.1
after_sign s (suc (suc (suc n))) u most one two = absurd (omega arith)

pub space_is_ascii : (b : ℕ) → is_space b ≡ true → b < 128
space_is_ascii b h = grind (arith, nat_tests)

pub digit_is_ascii : (b : ℕ) → is_digit b ≡ true → b < 128
digit_is_ascii b h = grind (arith, nat_tests)

pub name_is_ascii : (b : ℕ) → continues_name b ≡ true → b < 128
name_is_ascii b h = grind (arith, nat_tests)

-- what isn't plain is ASCII
pub special_is_ascii : (b : ℕ) → is_plain b ≡ false → b < 128
special_is_ascii b h = grind (arith, nat_tests)

-- behind plain bytes
pub before_special : (s : List ℕ) (n : ℕ) → n ≡ prefix_len is_plain s → IsCharBoundary s n
before_special s n e = elim (cases_lt n (length s)) [
  | inl below ↦
      let stops : is_plain (get_or s n 0) ≡ false = subst (λ k. is_plain (get_or s k 0) ≡ false) (sym e) (prefix_len_stops is_plain s 0 (omega arith)) in
      IsCharBoundary-before_ascii s n below (special_is_ascii (get_or s n 0) stops)
  | inr past ↦
      let all : length s ≡ n = omega (arith, prefix_len-le-length is_plain s) in
      subst (IsCharBoundary s) all (IsCharBoundary-end s)
]
