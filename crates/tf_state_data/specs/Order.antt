-- Lists in the order of a key of each element: the elements before and after a key, and the list with one element
-- more or less.
use Rattle.std.specs.Prelude.{◌≡◌, ◌<◌, ◌≤◌, ℕ, suc, List, ◌∷◌, ◌++◌, length, take, drop, slice_index_or, Option, Some, None, filter, find}
use Rattle.std.specs.Ordering.{is_lt, is_eq, is_gt}
use Rattle.std.specs.declared.cmp.Ordering.{Ordering}

-- the element with a key, if there is one
abbrev pub at_key : {A K : Type 0} → (A → K) → (K → K → Ordering) → K → List A → Option A
at_key key cmp k = find (λ a. is_eq (cmp (key a) k))

-- the elements whose keys come before a key
abbrev pub before : {A K : Type 0} → (A → K) → (K → K → Ordering) → K → List A → List A
before key cmp k = filter (λ a. is_lt (cmp (key a) k))

-- the elements whose keys come after a key
abbrev pub after : {A K : Type 0} → (A → K) → (K → K → Ordering) → K → List A → List A
after key cmp k = filter (λ a. is_gt (cmp (key a) k))

-- the list with a new element among the others, in place of one with its key
abbrev pub with_one : {A K : Type 0} → (A → K) → (K → K → Ordering) → A → List A → List A
with_one key cmp new xs = before key cmp (key new) xs ++ new ∷ after key cmp (key new) xs

-- the list without the element with a key
abbrev pub without_one : {A K : Type 0} → (A → K) → (K → K → Ordering) → K → List A → List A
without_one key cmp k xs = before key cmp k xs ++ after key cmp k xs

-- the element at an index has a key; those that come before it are at the lower indices, and those that come after it
-- at the higher ones
pub record IsAt {A K : Type 0} (key : A → K) (cmp : K → K → Ordering) (k : K) (xs : List A) (index : ℕ) : Type 0 where
  pub within : index < length xs
  pub lower : take index xs ≡ before key cmp k xs
  pub upper : drop (suc index) xs ≡ after key cmp k xs
  pub found : (default : A) → at_key key cmp k xs ≡ Some (slice_index_or xs index default)

-- no element has a key; those that come before it are below an index, and those that come after it from there on
pub record IsGapFor {A K : Type 0} (key : A → K) (cmp : K → K → Ordering) (k : K) (xs : List A) (index : ℕ) : Type 0 where
  pub within : index ≤ length xs
  pub lower : take index xs ≡ before key cmp k xs
  pub upper : drop index xs ≡ after key cmp k xs
  pub absent : at_key key cmp k xs ≡ None
