-- A set of nodes: for each node whether it is a member.
use Rattle.std.specs.Prelude.{◌≡◌, ◌≤◌, ◌<◌, ℕ, Bool, true, false, ◌/◌, ◌%◌, ◌==◌, List, map, slice_index, slice_index_or, Option, None, Some}
use Rattle.std.specs.List.{range_with_len}
use Rattle.std.specs.Int.{bit_at}

-- whether a node is a member; no number past the end is one
abbrev pub has : List Bool → ℕ → Bool
has set node = slice_index_or set node false

-- bit k of a list of words of 64 bits
abbrev pub bit_of : List ℕ → ℕ → Bool
bit_of words k = bit_at (slice_index words (k / 64)) (k % 64) == 1

-- the set whose members are the bits that are set
abbrev pub set_of_bits : List ℕ → ℕ → List Bool
set_of_bits words count = map (bit_of words) (range_with_len 0 count)

-- the first number at or after `from` that passes a test; `None` if no number does
abbrev pub IsFirstFrom : (ℕ → Bool) → ℕ → Option ℕ → Type 0
IsFirstFrom passes from (Some k) = (from ≤ k) × (passes k ≡ true) × ((j : ℕ) → from ≤ j → j < k → passes j ≡ false)
IsFirstFrom passes from None = (j : ℕ) → from ≤ j → passes j ≡ false
