-- The first bit at or after a place that is set.
use Rattle.std.proofs.Common.{◌≡◌, ◌∙◌, ◌+◌, ◌-◌, ◌*◌, ◌/◌, ◌%◌, ◌^◌, ◌<◌, ◌≤◌, ℕ, List, Bool, false, None, Some, length, get_or, refl, sym, ap, subst, arith, eqb, inl, inr}
use Rattle.std.specs.Int.{bit_at, w64, trailing_zeros}
use Rattle.std.proofs.lemmas.Bool.{cases_lt}
use Rattle.std.proofs.lemmas.List.{get_or_past}
use Rattle.std.proofs.lemmas.Nat.{shr-shr, shr_le}
use Rattle.std.proofs.lemmas.Nat.Bits.{bit_at-zero, bit_at_above, bit_at-trailing_zeros}
use Rattle.tf_graph.proofs.Bits.{has-inside, has-past}
use Rattle.tf_graph.specs.NodeSet.{has, bit_of, set_of_bits, IsFirstFrom}

bit_at-shifted : (n s i : ℕ) → bit_at (n / 2 ^ s) i ≡ bit_at n (s + i)
bit_at-shifted n s i = ap (λ x. x % 2) (shr-shr n s i)

-- a bit of a word
bit_of-word : (words : List ℕ) (at i word : ℕ) → i < 64 → word ≡ get_or words at 0 → bit_of words (at * 64 + i) ≡ eqb (bit_at word i) 1
bit_of-word words at i word h is =
    let high : (at * 64 + i) / 64 ≡ at = omega arith in
    let low : (at * 64 + i) % 64 ≡ i = omega arith in
    rw (high, low, is) refl

not_set : (words : List ℕ) (at i word : ℕ) → i < 64 → word ≡ get_or words at 0 → bit_at word i ≡ 0 → bit_of words (at * 64 + i) ≡ false
not_set words at i word h is none = bit_of-word words at i word h is ∙ ap (λ b. eqb b 1) none

-- the lowest bit of what is left of a word is one of the word
pub lowest-inside : (s word : ℕ) → word < 2 ^ 64 → 0 < word / 2 ^ s → s + trailing_zeros w64 (word / 2 ^ s) < 64
lowest-inside s word fits some =
    let rest = word / 2 ^ s in
    let lowest = bit_at-trailing_zeros w64 rest some (omega (arith, fits, shr_le word s)) in
    let t = trailing_zeros w64 rest in
    let one : bit_at word (s + t) ≡ 1 = sym (bit_at-shifted word s t) ∙ lowest.1 in
    elim (cases_lt (s + t) 64) [
      | inl below ↦ below
      | inr past ↦ let none : bit_at word (s + t) ≡ 0 = bit_at_above word 64 (s + t) fits past in absurd (omega (arith, one, none))
    ]

-- where what is left of a word isn't 0, its lowest bit is the first
pub first-in_word : (words : List ℕ) (at s word : ℕ) → word < 2 ^ 64 → word ≡ get_or words at 0 → 0 < word / 2 ^ s → IsFirstFrom (bit_of words) (at * 64 + s) (Some (at * 64 + s + trailing_zeros w64 (word / 2 ^ s)))
first-in_word words at s word fits is some =
    let rest = word / 2 ^ s in
    let small : rest < 2 ^ 64 = omega (arith, shr_le word s) in
    let lowest = bit_at-trailing_zeros w64 rest some small in
    let t = trailing_zeros w64 rest in
    let one : bit_at word (s + t) ≡ 1 = sym (bit_at-shifted word s t) ∙ lowest.1 in
    let inside : s + t < 64 = lowest-inside s word fits some in
    let place : at * 64 + s + t ≡ at * 64 + (s + t) = omega arith in (
      omega arith,
      rw place (bit_of-word words at (s + t) word inside is ∙ ap (λ b. eqb b 1) one),
      λ j low high.
          let i = j - (at * 64 + s) in
          let j_is : j ≡ at * 64 + (s + i) = omega (arith, low) in
          rw j_is (not_set words at (s + i) word (omega (arith, low, high, inside)) is (sym (bit_at-shifted word s i) ∙ lowest.2 i (omega (arith, low, high)))),
    )

-- where nothing is left of a word, no bit of it is set from there on
pub none-in_word : (words : List ℕ) (at s word : ℕ) → word ≡ get_or words at 0 → word / 2 ^ s ≡ 0 → (j : ℕ) → at * 64 + s ≤ j → j < (at + 1) * 64 → bit_of words j ≡ false
none-in_word words at s word is none j low high =
    let i = j - (at * 64 + s) in
    let j_is : j ≡ at * 64 + (s + i) = omega (arith, low) in
    rw j_is (not_set words at (s + i) word (omega (arith, low, high)) is (sym (bit_at-shifted word s i) ∙ rw none (bit_at-zero i)))

-- past the last word none is set
pub none-past : (words : List ℕ) (at j : ℕ) → length words ≤ at → at * 64 ≤ j → bit_of words j ≡ false
none-past words at j past low = rw (get_or_past words (j / 64) 0 (omega (arith, past, low)), bit_at-zero (j % 64)) refl

-- what is first from a place on is first from an earlier one, where there is none between
pub first-before : (p : ℕ → Bool) (from mid k : ℕ) → from ≤ mid → ((j : ℕ) → from ≤ j → j < mid → p j ≡ false) → IsFirstFrom p mid (Some k) → IsFirstFrom p from (Some k)
first-before p from mid k h none first = (
  omega (arith, h, first.0),
  first.1,
  λ j low high. elim (cases_lt j mid) [ inl early ↦ none j low early | inr late ↦ first.2 j late high ],
)

pub first-later : (words : List ℕ) (from next word : ℕ) → word < 2 ^ 64 → word ≡ get_or words next 0 → 0 < word → from ≤ next * 64
    → ((j : ℕ) → from ≤ j → j < next * 64 → bit_of words j ≡ false) → IsFirstFrom (bit_of words) from (Some (next * 64 + trailing_zeros w64 word))
first-later words from next word fits is some h none =
    let whole : word / 2 ^ 0 ≡ word = omega arith in
    let start : next * 64 + 0 ≡ next * 64 = omega arith in
    let found : IsFirstFrom (bit_of words) (next * 64 + 0) (Some (next * 64 + 0 + trailing_zeros w64 (word / 2 ^ 0))) = first-in_word words next 0 word fits is (rw whole some) in
    first-before (bit_of words) from (next * 64) (next * 64 + trailing_zeros w64 word) h none
    (subst (λ x. IsFirstFrom (bit_of words) x (Some (x + trailing_zeros w64 word))) start
    (subst (λ rest. IsFirstFrom (bit_of words) (next * 64 + 0) (Some (next * 64 + 0 + trailing_zeros w64 rest))) whole found))

-- the first bit of a set is its first member
pub first-member : (words : List ℕ) (count from k : ℕ) → k < count → IsFirstFrom (bit_of words) from (Some k) → IsFirstFrom (has (set_of_bits words count)) from (Some k)
first-member words count from k h first = (
  first.0,
  has-inside words count k h ∙ first.1,
  λ j low high. has-inside words count j (omega (arith, h, high)) ∙ first.2 j low high,
)

-- where the first bit is past the end, there is no member
pub none-member : (words : List ℕ) (count from k : ℕ) → count ≤ k → IsFirstFrom (bit_of words) from (Some k) → IsFirstFrom (has (set_of_bits words count)) from None
none-member words count from k h first j low = elim (cases_lt j count) [
  | inl below ↦ has-inside words count j below ∙ first.2 j low (omega (arith, h, below))
  | inr past ↦ has-past words count j past
]

pub none-member_at_all : (words : List ℕ) (count from : ℕ) → IsFirstFrom (bit_of words) from None → IsFirstFrom (has (set_of_bits words count)) from None
none-member_at_all words count from none j low = elim (cases_lt j count) [
  | inl below ↦ has-inside words count j below ∙ none j low
  | inr past ↦ has-past words count j past
]
