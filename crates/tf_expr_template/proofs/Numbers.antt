-- Numbers in decimal.
use Rattle.std.proofs.Common.{◌≡◌, ℕ, ◌+◌, ◌*◌, ◌-◌, ◌<◌, ◌≤◌, List, [], ◌∷◌, length, get_or, drop, refl, ap, arith, drop-cons, add-one}
use Rattle.tf_expr_template.specs.Word.{decimal, decimal_from}

pub decimal_from-le : (n : ℕ) (ds : List ℕ) → n ≤ decimal_from n ds
decimal_from-le n [] = omega arith
decimal_from-le n (d ∷ ds) = omega (arith, decimal_from-le (n * 10 + (d - 48)) ds)

-- one digit more
pub decimal_from-next : (n i : ℕ) (ds : List ℕ) → i < length ds → decimal_from n (drop i ds) ≡ decimal_from (n * 10 + (get_or ds i 0 - 48)) (drop (i + 1) ds)
decimal_from-next n i ds h =
    let e : drop i ds ≡ get_or ds i 0 ∷ drop (i + 1) ds = rw add-one (drop-cons ds i 0 h) in
    ap (λ x. decimal_from n x) e

pub decimal-start : (ds : List ℕ) → decimal ds ≡ decimal_from 0 ds
unfolding decimal
decimal-start ds = refl

-- where one digit more is too much, the whole is
pub decimal-above : (ds : List ℕ) (n i : ℕ) → decimal ds ≡ decimal_from n (drop i ds) → i < length ds → n * 10 + (get_or ds i 0 - 48) ≤ decimal ds
decimal-above ds n i e h =
    omega (arith, e, decimal_from-next n i ds h, decimal_from-le (n * 10 + (get_or ds i 0 - 48)) (drop (i + 1) ds))
