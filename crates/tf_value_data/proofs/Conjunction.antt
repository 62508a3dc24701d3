-- Tests joined by `&&`.
use Rattle.std.proofs.Common.{◌≡◌, ◌&&◌, Bool, true, false, refl}

pub and-first : (b c : Bool) → (b && c) ≡ true → b ≡ true
and-first true c e = refl
and-first false c e = e

pub and-second : (b c : Bool) → (b && c) ≡ true → c ≡ true
and-second true c e = e
and-second false c e = absurd (cc)

pub and-both : (b c : Bool) → b ≡ true → c ≡ true → (b && c) ≡ true
and-both b c e f = rw (e, f)
