-- Trees that can be read back from their texts.
use Rattle.std.specs.Prelude.{◌≡◌, ℕ, ◌^◌, ◌<◌, ◌≤◌, pos, negsuc, List, Some, ⊤}
use Rattle.std.specs.Cmp.Lexicographic.{slice_cmp}
use Rattle.std.specs.Ordering.{nat_cmp}
use Rattle.std.specs.declared.cmp.Ordering.TheVariants.{Less}
use Rattle.serde_json.specs.Data.{Data, Num, number, unsigned, negative, float, array, object, Items, no_items, item, Members, no_members, member, depth}
use Rattle.serde_json.specs.Read.{read, max_depth}
use Rattle.tf_value_json.specs.Text.{text_of}

-- each of these keys is above a key, byte by byte
abbrev pub AreAbove : List ℕ → Members → Type 0
AreAbove k no_members = ⊤
AreAbove k (member l d ms) = (slice_cmp nat_cmp k l ≡ Less) × AreAbove k ms

-- A tree is orderly if its numbers satisfy `P`, and the keys of each object are strictly in byte order.
abbrev mutual
  pub IsOrderly : (Num → Type 0) → Data → Type 0
  IsOrderly P (number n) = P n
  IsOrderly P (array ds) = AreOrderly P ds
  IsOrderly P (object ms) = AreOrderlyMembers P ms
  IsOrderly P _ = ⊤

  pub AreOrderly : (Num → Type 0) → Items → Type 0
  AreOrderly P no_items = ⊤
  AreOrderly P (item d ds) = IsOrderly P d × AreOrderly P ds

  pub AreOrderlyMembers : (Num → Type 0) → Members → Type 0
  AreOrderlyMembers P no_members = ⊤
  AreOrderlyMembers P (member k d ms) = AreAbove k ms × IsOrderly P d × AreOrderlyMembers P ms

-- a whole number of 64 bits
abbrev pub IsWhole : Num → Type 0
IsWhole (unsigned n) = n < 2 ^ 64
IsWhole (negative (pos n)) = ⊥
IsWhole (negative (negsuc n)) = n < 2 ^ 63
IsWhole (float x) = ⊥

-- A tree is plain if it is orderly and its numbers are whole numbers of 64 bits.
abbrev pub IsPlain : Data → Type 0
IsPlain d = IsOrderly IsWhole d

abbrev pub ArePlain : Items → Type 0
ArePlain ds = AreOrderly IsWhole ds

abbrev pub ArePlainMembers : Members → Type 0
ArePlainMembers ms = AreOrderlyMembers IsWhole ms

abbrev pub IsAny : Num → Type 0
IsAny n = ⊤

-- A tree is sorted if it is orderly, whatever its numbers.
abbrev pub IsSorted : Data → Type 0
IsSorted d = IsOrderly IsAny d

-- The text of a plain tree reads as that tree, if the tree nests no deeper than the reader allows.
abbrev pub TextReadsBack : Type 0
TextReadsBack = (d : Data) → IsPlain d → depth d ≤ max_depth → read (text_of d) ≡ Some d

-- If a text reads as a tree, the tree is sorted.
abbrev pub ReadIsSorted : Type 0
ReadIsSorted = (text : List ℕ) (d : Data) → read text ≡ Some d → IsSorted d
