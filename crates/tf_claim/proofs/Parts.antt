-- Parts of the whole: a half twice is no more than all, and beside the whole there is none.
use Rattle.std.proofs.Common.{◌≡◌, ◌<◌, ◌≤◌, ◌+◌, ◌^◌, ℕ, zero, suc, List, [], ◌∷◌, ◌++◌, map, length, refl, ap, arith, inl, inr}
use Rattle.std.proofs.Math.Nat.{pow-succ'}
use Rattle.std.proofs.lemmas.Bool.{cases_eq}
use Rattle.tf_claim.specs.Views.{piece_in, part_in}

-- in smaller measures a piece is at least twice as many
piece_finer : (scale d : ℕ) → piece_in scale d + piece_in scale d ≤ piece_in (suc scale) d
piece_finer scale zero = let p = pow-succ' 2 scale in omega arith
piece_finer zero (suc d) = omega arith
piece_finer (suc scale) (suc d) = piece_finer scale d

-- two halves of a piece are no more than it
two_halves : (scale d : ℕ) → piece_in scale (suc d) + piece_in scale (suc d) ≤ piece_in scale d
two_halves zero d = omega arith
two_halves (suc scale) d = piece_finer scale d

pub part_finer : (scale : ℕ) (ds : List ℕ) → part_in scale ds + part_in scale ds ≤ part_in (suc scale) ds
part_finer scale [] = omega arith
part_finer scale (d ∷ ds) =
    let here = piece_finer scale d in
    let r = part_finer scale ds in omega arith

pub part_halved : (scale : ℕ) (ds : List ℕ) → part_in scale (map suc ds) + part_in scale (map suc ds) ≤ part_in scale ds
part_halved scale [] = omega arith
part_halved scale (d ∷ ds) =
    let here = two_halves scale d in
    let r = part_halved scale ds in omega arith

pub part_append : (scale : ℕ) (ds es : List ℕ) → part_in scale (ds ++ es) ≡ part_in scale ds + part_in scale es
part_append scale [] es = omega arith
part_append scale (d ∷ ds) es = let r = part_append scale ds es in omega arith

-- the whole is so in all smaller measures
pub whole_finer : (scale finer : ℕ) (ds : List ℕ) → scale ≤ finer → 2 ^ scale ≤ part_in scale ds → 2 ^ finer ≤ part_in finer ds
whole_finer scale zero ds le whole =
    let is : scale ≡ 0 = omega arith in rw is at whole
whole_finer scale (suc finer) ds le whole =
    elim (cases_eq scale (suc finer)) [
      | inl is ↦ rw is at whole
      | inr ne ↦
          let r = whole_finer scale finer ds (omega arith) whole in
          let p = pow-succ' 2 finer in
          let f = part_finer finer ds in omega arith
    ]

-- a piece is some in its own measure, and in all smaller ones
piece_some : (d : ℕ) → 0 < piece_in d d
piece_some zero = omega arith
piece_some (suc d) = piece_some d

some_finer : (scale finer d : ℕ) → scale ≤ finer → 0 < piece_in scale d → 0 < piece_in finer d
some_finer scale zero d le more =
    let is : scale ≡ 0 = omega arith in rw is at more
some_finer scale (suc finer) d le more =
    elim (cases_eq scale (suc finer)) [
      | inl is ↦ rw is at more
      | inr ne ↦
          let r = some_finer scale finer d (omega arith) more in
          let f = piece_finer finer d in omega arith
    ]

-- a part that is nothing in any measure has no piece
pub no_part : (scale : ℕ) (ds : List ℕ) → ((finer : ℕ) → scale ≤ finer → part_in finer ds ≡ 0) → ds ≡ []
no_part scale [] none = refl
no_part scale (d ∷ ds) none =
    let there = some_finer d (scale + d) d (omega arith) (piece_some d) in
    let zero_there = none (scale + d) (omega arith) in absurd (omega arith)

pub some_halved : (ds : List ℕ) → 0 < length ds → 0 < length (map suc ds)
some_halved [] more = more
some_halved (d ∷ ds) more = omega arith

pub none_empty : (ds : List ℕ) → 0 < length ds → ds ≡ [] → ⊥
none_empty ds more is =
    let l : length ds ≡ 0 = ap length is in omega arith

pub some_joined : (ds es : List ℕ) → 0 < length ds → 0 < length (ds ++ es)
some_joined [] es more = absurd (omega arith)
some_joined (d ∷ ds) es more = omega arith

-- half the pieces in half the measure
pub part_same : (scale : ℕ) (ds : List ℕ) → part_in (suc scale) (map suc ds) ≡ part_in scale ds
part_same scale [] = refl
part_same scale (d ∷ ds) = ap (λ (n : ℕ). piece_in scale d + n) (part_same scale ds)
