-- Texts in byte order.
use Rattle.std.specs.BTreeSet.{insert_key}
use Rattle.std.specs.Cmp.Lexicographic.{slice_cmp}
use Rattle.std.specs.Ordering.{nat_cmp}
use Rattle.std.specs.Prelude.{ℕ, List}

-- the texts with one more at its place in the order, unless it is already there
abbrev pub put_text : List (List ℕ) → List ℕ → List (List ℕ)
put_text texts text = insert_key (slice_cmp nat_cmp) texts text
