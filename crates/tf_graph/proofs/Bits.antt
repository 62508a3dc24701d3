-- Sets kept as bits: membership after a bit is set, and after another set is added.
use Rattle.std.proofs.Common.{◌≡◌, ◌≢◌, ◌||◌, ◌+◌, ◌*◌, ◌/◌, ◌%◌, ◌^◌, ◌<◌, ◌≤◌, ℕ, List, Bool, true, false, length, set, get_or, refl, sym, ap, arith, eqb, max, bit_or, zero, suc, inl, inr, replicate, bit_and}
use Rattle.std.specs.Int.{bit_at, w64}
use Rattle.std.proofs.lemmas.List.{get_or-set_same, get_or-set_other, get_or_past, get_or-replicate, length-replicate}
use Rattle.std.proofs.lemmas.List.FromFn.{get_or-map-range_with_len, length-map-range_with_len}
use Rattle.std.proofs.lemmas.Bool.{cases_eq, cases_lt, eq-eqb, ne_eqb}
use Rattle.std.proofs.lemmas.Nat.Bits.{bit_at_or, bit_at-lt, bit_at-zero, bit_at_set_same, bit_at_set_other, shr_and_one}
use Rattle.tf_graph.specs.NodeSet.{has, bit_of, set_of_bits}

pub has-inside : (words : List ℕ) (count k : ℕ) → k < count → has (set_of_bits words count) k ≡ bit_of words k
has-inside words count k h = get_or-map-range_with_len (bit_of words) 0 count k k false h (omega arith)

pub length-set_of_bits : (words : List ℕ) (count : ℕ) → length (set_of_bits words count) ≡ count
length-set_of_bits words count = length-map-range_with_len (bit_of words) 0 count

pub has-past : (words : List ℕ) (count k : ℕ) → count ≤ k → has (set_of_bits words count) k ≡ false
has-past words count k h = get_or_past (set_of_bits words count) k false (omega (arith, length-set_of_bits words count))

max_one : (a b : ℕ) → a < 2 → b < 2 → eqb (max a b) 1 ≡ (eqb a 1 || eqb b 1)
max_one zero zero h k = refl
max_one zero (suc zero) h k = refl
max_one zero (suc (suc b)) h k = absurd (omega arith)
max_one (suc zero) zero h k = refl
max_one (suc zero) (suc zero) h k = refl
max_one (suc zero) (suc (suc b)) h k = absurd (omega arith)
max_one (suc (suc a)) b h k = absurd (omega arith)

bit_of-or : (words others sums : List ℕ) → ((i : ℕ) → get_or sums i 0 ≡ bit_or (get_or words i 0) (get_or others i 0)) → (k : ℕ) → bit_of sums k ≡ (bit_of words k || bit_of others k)
bit_of-or words others sums e k =
    rw (e (k / 64), bit_at_or (get_or words (k / 64) 0) (get_or others (k / 64) 0) (k % 64)) (max_one (bit_at (get_or words (k / 64) 0) (k % 64)) (bit_at (get_or others (k / 64) 0) (k % 64)) (bit_at-lt (get_or words (k / 64) 0) (k % 64)) (bit_at-lt (get_or others (k / 64) 0) (k % 64)))

-- all bits of both lists
pub has-or : (words others sums : List ℕ) (count : ℕ) → ((i : ℕ) → get_or sums i 0 ≡ bit_or (get_or words i 0) (get_or others i 0)) → (k : ℕ) → has (set_of_bits sums count) k ≡ (has (set_of_bits words count) k || has (set_of_bits others count) k)
has-or words others sums count e k = elim (cases_lt k count) [
  | inl below ↦ rw (has-inside sums count k below, has-inside words count k below, has-inside others count k below) (bit_of-or words others sums e k)
  | inr past ↦ rw (has-past sums count k past, has-past words count k past, has-past others count k past) refl
]

or_false : (x : Bool) → x ≡ (x || false)
or_false true = refl
or_false false = refl

or_true : (x : Bool) → true ≡ (x || true)
or_true true = refl
or_true false = refl

low_below : (n : ℕ) → n % 64 < 64
low_below n = omega arith

same_place : (a b : ℕ) → a / 64 ≡ b / 64 → a % 64 ≡ b % 64 → a ≡ b
same_place a b e f = omega arith

bit_of-set : (words : List ℕ) (node k : ℕ) → node / 64 < length words → bit_of (set words (node / 64) (bit_or (get_or words (node / 64) 0) (1 * 2 ^ (node % 64) % 2 ^ 64))) k ≡ (bit_of words k || eqb node k)
bit_of-set words node k h = elim (cases_eq node k) [
  | inl same ↦
      let yes : eqb node k ≡ true = eq-eqb node k same in
      rw (yes, ← or_true (bit_of words k), ← same, get_or-set_same words (node / 64) (bit_or (get_or words (node / 64) 0) (1 * 2 ^ (node % 64) % 2 ^ 64)) 0 h, bit_at_set_same w64 (get_or words (node / 64) 0) (node % 64) (low_below node)) refl
  | inr other ↦
      let no : eqb node k ≡ false = ne_eqb node k other in
      rw (no, ← or_false (bit_of words k)) (elim (cases_eq (k / 64) (node / 64)) [
        | inl word ↦
            let apart : k % 64 ≢ node % 64 = λ e. other (sym (same_place k node word e)) in
            rw (word, get_or-set_same words (node / 64) (bit_or (get_or words (node / 64) 0) (1 * 2 ^ (node % 64) % 2 ^ 64)) 0 h, bit_at_set_other w64 (get_or words (node / 64) 0) (node % 64) (low_below node) (k % 64) apart) refl
        | inr elsewhere ↦
            rw (get_or-set_other words (node / 64) (k / 64) (bit_or (get_or words (node / 64) 0) (1 * 2 ^ (node % 64) % 2 ^ 64)) 0 elsewhere) refl
      ])
]

-- no bit is set
pub has-none : (words : List ℕ) (count : ℕ) → ((i : ℕ) → get_or words i 0 ≡ 0) → (k : ℕ) → has (set_of_bits words count) k ≡ false
has-none words count e k = elim (cases_lt k count) [
  | inl below ↦ rw (has-inside words count k below, e (k / 64), bit_at-zero (k % 64)) refl
  | inr past ↦ has-past words count k past
]

pub get_or-zeros : (n i : ℕ) → get_or (replicate {A = ℕ} n 0) i 0 ≡ 0
get_or-zeros n i = elim (cases_lt i n) [
  | inl below ↦ get_or-replicate {A = ℕ} n i 0 0 below
  | inr past ↦ get_or_past (replicate {A = ℕ} n 0) i 0 (omega (arith, length-replicate {A = ℕ} n 0))
]

-- sets of as many nodes have as many words
pub same_count : (words others : List ℕ) (count other_count : ℕ) (set other_set : List Bool) → set_of_bits words count ≡ set → set_of_bits others other_count ≡ other_set → length set ≡ length other_set → count ≡ other_count
same_count words others count other_count set other_set e f h =
    let same = ap length e in
    let other = ap length f in
    let size = length-set_of_bits words count in
    let other_size = length-set_of_bits others other_count in
    omega arith

-- a bit that was read
pub has-read : (words : List ℕ) (count node word : ℕ) → node < count → word ≡ get_or words (node / 64) 0 → eqb (bit_and (word / 2 ^ (node % 64)) 1) 1 ≡ has (set_of_bits words count) node
has-read words count node word h read = rw (has-inside words count node h, read, shr_and_one (get_or words (node / 64) 0) (node % 64)) refl

-- one bit more
pub has-set : (words : List ℕ) (count node : ℕ) → node / 64 < length words → node < count → (k : ℕ) → has (set_of_bits (set words (node / 64) (bit_or (get_or words (node / 64) 0) (1 * 2 ^ (node % 64) % 2 ^ 64))) count) k ≡ (has (set_of_bits words count) k || eqb node k)
has-set words count node h below k = elim (cases_lt k count) [
  | inl inside ↦ rw (has-inside _ count k inside, has-inside words count k inside) (bit_of-set words node k h)
  | inr past ↦
      let other : eqb node k ≡ false = ne_eqb node k (λ e. omega arith) in
      rw (has-past _ count k past, has-past words count k past, other) refl
]

-- a member's word is there
pub word-inside : (words : List ℕ) (count node : ℕ) (now : List Bool) → length words ≡ count / 64 + 1 → set_of_bits words count ≡ now → node < length now → node / 64 < length words
word-inside words count node now long is h =
    let same = ap length is in
    let size = length-set_of_bits words count in
    omega arith

pub node-inside : (words : List ℕ) (count node : ℕ) (now : List Bool) → set_of_bits words count ≡ now → node < length now → node < count
node-inside words count node now is h =
    let same = ap length is in
    let size = length-set_of_bits words count in
    omega arith
