-- Finding an entry about a request, and the stage of an action.
use Rattle.std.proofs.Common.{◌≡◌, ◌∙◌, ◌<◌, ◌≤◌, ◌+◌, ◌-◌, ◌++◌, ◌||◌, ℕ, zero, suc, Bool, true, false, cond, List, [], ◌∷◌, Option, Some, None, ap, arith, drop, get_or, length, map, refl, sym, take}
use Rattle.std.proofs.lemmas.List.{at_drop_more, drop_more, get_or-map, get_or_at, length-map, length-take, map-set}
use Rattle.std.proofs.lemmas.List.Edits.{map_over_more}
use Rattle.std.specs.List.{list_any, position_from}
use Rattle.std.specs.Prelude.{slice_get, slice_range, slice_set}

-- the place of the first item that passes a test, with the item
pub record IsFound {X : Type 0} (p : X → Bool) (xs : List X) (first i : ℕ) : Type 0 where
  pub place : ℕ
  pub item : X
  pub is_place : i ≡ first + place
  pub there : slice_get xs place ≡ Some item
  pub passes : p item ≡ true

found_by_test : {X : Type 0} (p : X → Bool) (first : ℕ) (x : X) (xs : List X) (i : ℕ) (b : Bool) → p x ≡ b → (position_from p (first + 1) xs ≡ Some i → IsFound p xs (first + 1) i)
    → cond b (Some first) (position_from p (first + 1) xs) ≡ Some i → IsFound p (x ∷ xs) first i
found_by_test p first x xs i true passes later at = record { place = 0; item = x; is_place = (let same : first ≡ i = cc in omega (arith, same)); there = refl; passes = passes }
found_by_test p first x xs i false fails later at =
    let one = later at in
    let is : i ≡ first + 1 + one.place = one.is_place in
    record { place = suc one.place; item = one.item; is_place = omega (arith, is); there = one.there; passes = one.passes }

pub found : {X : Type 0} (p : X → Bool) (first : ℕ) (xs : List X) (i : ℕ) → position_from p first xs ≡ Some i → IsFound p xs first i
found p first [] i h = absurd (cc)
found p first (x ∷ xs) i h = found_by_test p first x xs i (p x) refl (found p (first + 1) xs i) h

-- one item is in the part of a list from a place to the next one
pub one_item : {X Y : Type 0} (f : X → Y) (p : Y → Bool) (xs : List X) (i : ℕ) (d : X) → i < length xs → list_any p (map f (slice_range xs i (i + 1))) ≡ p (f (get_or xs i d))
one_item f p xs i d within =
    let one : i + 1 - i ≡ 1 = omega arith in
    at_drop_more (λ ys. list_any p (map f (take (i + 1 - i) ys))) xs i d within
    ∙ ap (λ n. list_any p (map f (take n (get_or xs i d ∷ drop (i + 1) xs)))) one ∙ or_false (p (f (get_or xs i d))) where
      or_false : (b : Bool) → (b || false) ≡ b
      or_false true = refl
      or_false false = refl

-- the search goes on at the next place, or ends
pub next_place : {X Y : Type 0} (f : X → Y) (p : Y → Bool) (xs : List X) (i : ℕ) (d : X) → i < length xs
    → position_from p i (map f (drop i xs)) ≡ cond (p (f (get_or xs i d))) (Some i) (position_from p (i + 1) (map f (drop (i + 1) xs)))
next_place f p xs i d within = at_drop_more (λ ys. position_from p i (map f ys)) xs i d within

-- an item of a list whose first items were changed is what it was before the change
pub current : {X : Type 0} (f : X → X) (xs ys : List X) (i : ℕ) (d : X) → i < length xs → ys ≡ map f (take i xs) ++ drop i xs → get_or ys i d ≡ get_or xs i d
current f xs ys i d within so_far =
    let front = map f (take i xs) in
    let long : length front ≡ i = length-map (take i xs) f ∙ omega (arith, length-take i xs) in
    ap (λ l. get_or l i d) (so_far ∙ ap (λ l. front ++ l) (drop_more xs i d within)) ∙ get_or_at front (get_or xs i d) (drop (i + 1) xs) d i long

-- the same for what is seen of the items
pub current_at : {X Y : Type 0} (g : X → Y) (f : Y → Y) (xs ys : List X) (i : ℕ) (d : X) → i < length xs → length ys ≡ length xs → map g ys ≡ map f (take i (map g xs)) ++ drop i (map g xs) → g (get_or ys i d) ≡ g (get_or xs i d)
current_at g f xs ys i d within long so_far =
    sym (get_or-map g ys i d (g d) (omega (arith, long)))
    ∙ current f (map g xs) (map g ys) i (g d) (omega (arith, length-map xs g)) so_far
    ∙ get_or-map g xs i d (g d) within

-- one item more is changed
pub one_more : {X Y : Type 0} (g : X → Y) (f : Y → Y) (xs ys : List X) (i : ℕ) (d x : X) → i < length xs → length ys ≡ length xs → map g ys ≡ map f (take i (map g xs)) ++ drop i (map g xs) → g x ≡ f (g (get_or ys i d))
    → map g (slice_set ys i x) ≡ map f (take (i + 1) (map g xs)) ++ drop (i + 1) (map g xs)
one_more g f xs ys i d x within long so_far is =
    map-set g ys i x ∙ ap (slice_set (map g ys) i) is
    ∙ map_over_more f (map g xs) (map g ys) i (g (get_or ys i d)) (omega (arith, length-map xs g)) so_far (sym (get_or-map g ys i d (g (get_or ys i d)) (omega (arith, long))))

-- an item of a list that isn't empty
item : {X : Type 0} (xs : List X) (i : ℕ) → i < length xs → X
item [] i within = absurd (omega (arith, within))
item (x ∷ xs) i within = x

pub found_here : {X Y : Type 0} (f : X → Y) (p : Y → Bool) (xs : List X) (i : ℕ) → i < length xs → list_any p (map f (slice_range xs i (i + 1))) ≡ true → position_from p i (map f (drop i xs)) ≡ Some i
found_here f p xs i within is =
    let d = item xs i within in
    next_place f p xs i d within ∙ ap (λ b. cond b (Some i) (position_from p (i + 1) (map f (drop (i + 1) xs)))) (sym (one_item f p xs i d within) ∙ is)

pub not_here : {X Y : Type 0} (f : X → Y) (p : Y → Bool) (xs : List X) (i : ℕ) → i < length xs → list_any p (map f (slice_range xs i (i + 1))) ≡ false
    → position_from p i (map f (drop i xs)) ≡ position_from p (i + 1) (map f (drop (i + 1) xs))
not_here f p xs i within is =
    let d = item xs i within in
    next_place f p xs i d within ∙ ap (λ b. cond b (Some i) (position_from p (i + 1) (map f (drop (i + 1) xs)))) (sym (one_item f p xs i d within) ∙ is)

-- nothing is at a place behind the end of a list
pub past : {X Y : Type 0} (f : X → Y) (xs : List X) (i : ℕ) → length xs ≤ i → slice_get (map f xs) i ≡ None
past f [] i behind = refl
past f (x ∷ xs) zero behind = absurd (omega (arith, behind))
past f (x ∷ xs) (suc i) behind = past f xs i (omega (arith, behind))
