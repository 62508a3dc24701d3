-- Which answers are within the limits.
use Rattle.std.proofs.Common.{◌≡◌, ◌&&◌, Bool, true, false, cond, Ok, Err, refl}
use Rattle.std.proofs.lemmas.Bool.{le-leb, leb-true}
use Rattle.tf_value_data.specs.Tree.{Tree}
use Rattle.tf_value_data.specs.Measure.{IsWithinLimits}
use Rattle.tf_expr_syntax.specs.declared.fault.EvalFault.TheVariants.{WrongKind, TooLarge}
use Rattle.tf_expr_operators.specs.Answer.{Answer, limited}

abbrev pub answered : Bool → Tree → Answer
answered b t = cond b (Ok t) (Err TooLarge)

answered-value : (b : Bool) (t v : Tree) → answered b t ≡ Ok v → t ≡ v
answered-value true t v e = cc
answered-value false t v e = absurd (cc)

answered-fault : (b : Bool) (t : Tree) → answered b t ≡ Err WrongKind → ⊥
answered-fault true t e = absurd (cc)
answered-fault false t e = absurd (cc)

answered-test : (b : Bool) (t v : Tree) → answered b t ≡ Ok v → b ≡ true
answered-test true t v e = refl
answered-test false t v e = absurd (cc)

refused : (b c : Bool) (t : Tree) → (b ≡ true → c ≡ true → ⊥) → answered (b && c) t ≡ Err TooLarge
refused true true t h = absurd (h refl refl)
refused true false t h = refl
refused false c t h = refl

first-of : (b c : Bool) → (b && c) ≡ true → b ≡ true
first-of true c e = refl
first-of false c e = e

second-of : (b c : Bool) → (b && c) ≡ true → c ≡ true
second-of true c e = e
second-of false c e = absurd (cc)

-- what is answered is the value itself
pub limited-value : (t v : Tree) → limited t ≡ Ok v → t ≡ v
limited-value t v e = answered-value _ t v e

-- no other fault is answered
pub limited-fault : (t : Tree) → limited t ≡ Err WrongKind → ⊥
limited-fault t e = answered-fault _ t e

pub limited-within : (t : Tree) → IsWithinLimits t → limited t ≡ Ok t
limited-within t h = let w = le-leb _ _ h.0 in let d = le-leb _ _ h.1 in rw (w, d)

pub limited-beyond : (t : Tree) → (IsWithinLimits t → ⊥) → limited t ≡ Err TooLarge
limited-beyond t h = refused _ _ t (λ p q. h (leb-true _ _ p, leb-true _ _ q))

pub limited-large : (t : Tree) → limited t ≡ Err TooLarge → IsWithinLimits t → ⊥
limited-large t e h = let o : limited t ≡ Ok t = limited-within t h in absurd (cc)

-- what is answered is within the limits
pub limited-holds : (t v : Tree) → limited t ≡ Ok v → IsWithinLimits v
limited-holds t v e =
    let both = answered-test _ t v e in
    let same = limited-value t v e in
    rw (← same) (leb-true _ _ (first-of _ _ both), leb-true _ _ (second-of _ _ both))
