-- No chain of pairs leads back, by the stages of actions and what ties the resources of one stage.
use Rattle.std.proofs.Common.{◌≡◌, ◌∙◌, ◌<◌, ◌≤◌, ◌⊎◌, ◌&&◌, ◌||◌, ℕ, zero, suc, Bool, true, false, not, eqb, ltb, refl, sym, ap, subst, arith, inl, inr}
use Rattle.std.proofs.lemmas.Bool.{and_from, and_parts, both_ways, cases_Bool, eq-eqb, eqb-true, false_from_ne_true, lt-ltb, ltb-true, not-true, not_from_false, or_cases, or_left, or_right}
use Rattle.tf_graph.specs.Path.{Path, direct, onward}
use Rattle.tf_plan_order.specs.Before.{IsApply, IsDestroy, Before, needed_first, dependent_destroyed_first, old_destroyed_first, new_created_first, dependent_applied_first}
use Rattle.tf_plan_order.specs.Laws.{stage, stage_by, NoChainLeadsBack, StagesNeverFall, StageIsStrict}
use Rattle.tf_plan_order.specs.OrderInput.{OrderInputView, AreSound}
use Rattle.tf_plan_order.specs.declared.action.OrderedAction.{OrderedAction}

-- one needed the other, and not the other way round
abbrev goes_first : OrderInputView → ℕ → ℕ → Bool
goes_first t a b = t.needed a b && not (t.needed b a)

-- what ties two resources whose actions are of one stage
abbrev pub tied : OrderInputView → ℕ → ℕ → ℕ → Bool
tied t zero a b = goes_first t a b
tied t (suc zero) a b = t.needs b a
tied t (suc (suc n)) a b = goes_first t a b

-- a later stage, or tied within one
abbrev pub Below : OrderInputView → OrderedAction → OrderedAction → Type 0
Below t x y = (stage t x < stage t y) ⊎ ((stage t x ≡ stage t y) × (tied t (stage t x) x.resource y.resource ≡ true))

not_both : (b : Bool) → (b && not b) ≡ false
not_both true = refl
not_both false = refl

stage-apply : (t : OrderInputView) (x : OrderedAction) → IsApply x → stage t x ≡ 1
stage-apply t x h = ap (λ k. stage_by k (t.late x.resource)) h

stage-late : (t : OrderInputView) (x : OrderedAction) → IsDestroy x → t.late x.resource ≡ true → stage t x ≡ 2
stage-late t x (inl h) late = ap (λ k. stage_by k (t.late x.resource)) h ∙ rw late refl
stage-late t x (inr h) late = ap (λ k. stage_by k (t.late x.resource)) h ∙ rw late refl

stage-early : (t : OrderInputView) (x : OrderedAction) → IsDestroy x → t.late x.resource ≡ false → stage t x ≡ 0
stage-early t x (inl h) early = ap (λ k. stage_by k (t.late x.resource)) h ∙ rw early refl
stage-early t x (inr h) early = ap (λ k. stage_by k (t.late x.resource)) h ∙ rw early refl

module _ (t : OrderInputView) (s : AreSound t) where
  first-onward : (a b c : ℕ) → goes_first t a b ≡ true → goes_first t b c ≡ true → goes_first t a c ≡ true
  first-onward a b c h k =
      let p = and_parts (t.needed a b) (not (t.needed b a)) h in
      let q = and_parts (t.needed b c) (not (t.needed c b)) k in
      and_from _ _ (s.onward a b c p.0 q.0)
      (not_from_false (t.needed c a) (false_from_ne_true (t.needed c a) (λ back. both_ways (t.needed b a) (not-true (t.needed b a) p.1) (s.onward b c a q.0 back))))

  tied-itself : (n a : ℕ) → tied t n a a ≡ false
  tied-itself zero a = not_both (t.needed a a)
  tied-itself (suc zero) a = s.strict.irreflexive a
  tied-itself (suc (suc n)) a = not_both (t.needed a a)

  tied-onward : (n a b c : ℕ) → tied t n a b ≡ true → tied t n b c ≡ true → tied t n a c ≡ true
  tied-onward zero a b c h k = first-onward a b c h k
  tied-onward (suc zero) a b c h k = s.strict.transitive c b a k h
  tied-onward (suc (suc n)) a b c h k = first-onward a b c h k

  pub below-itself : (x : OrderedAction) → Below t x x → ⊥
  below-itself x (inl h) = absurd (omega (arith, h))
  below-itself x (inr h) = both_ways (tied t (stage t x) x.resource x.resource) (tied-itself (stage t x) x.resource) h.1

  pub below-onward : (x y z : OrderedAction) → Below t x y → Below t y z → Below t x z
  below-onward x y z (inl h) (inl k) = inl (omega (arith, h, k))
  below-onward x y z (inl h) (inr k) = inl (omega (arith, h, k.0))
  below-onward x y z (inr h) (inl k) = inl (omega (arith, h.0, k))
  below-onward x y z (inr h) (inr k) =
      inr (h.0 ∙ k.0, tied-onward (stage t x) x.resource y.resource z.resource h.1 (subst (λ n. tied t n y.resource z.resource ≡ true) (sym h.0) k.1))

  -- two destroys, of which the first goes first
  destroys-below : (x y : OrderedAction) → IsDestroy x → IsDestroy y → goes_first t x.resource y.resource ≡ true → Below t x y
  destroys-below x y hx hy h =
      let p = and_parts (t.needed x.resource y.resource) (not (t.needed y.resource x.resource)) h in
      elim (cases_Bool (t.late x.resource)) [
        | inl late ↦
            let sx : stage t x ≡ 2 = stage-late t x hx late in
            let sy : stage t y ≡ 2 = stage-late t y hy (s.spreads x.resource y.resource late p.0) in
            inr (sx ∙ sym sy, subst (λ n. tied t n x.resource y.resource ≡ true) (sym sx) h)
        | inr early ↦
            let sx : stage t x ≡ 0 = stage-early t x hx early in
            elim (cases_Bool (t.late y.resource)) [
              | inl late ↦ let sy : stage t y ≡ 2 = stage-late t y hy late in inl (omega (arith, sx, sy))
              | inr too ↦
                  let sy : stage t y ≡ 0 = stage-early t y hy too in
                  inr (sx ∙ sym sy, subst (λ n. tied t n x.resource y.resource ≡ true) (sym sx) h)
            ]
      ]

  pub below-before : (x y : OrderedAction) → Before t x y → Below t x y
  below-before _ _ (needed_first b a hb ha h) =
      let sb : stage t b ≡ 1 = stage-apply t b hb in
      let sa : stage t a ≡ 1 = stage-apply t a ha in
      inr (sb ∙ sym sa, subst (λ n. tied t n b.resource a.resource ≡ true) (sym sb) h)
  below-before _ _ (dependent_destroyed_first a b ha hb h back) = destroys-below a b ha hb (and_from _ _ h (not_from_false _ back))
  below-before _ _ (old_destroyed_first old new r early) =
      let so : stage t old ≡ 0 = stage-early t old (inl r.destroys) early in
      let sn : stage t new ≡ 1 = stage-apply t new r.creates in
      inl (omega (arith, so, sn))
  below-before _ _ (new_created_first old new r late) =
      let so : stage t old ≡ 2 = stage-late t old (inl r.destroys) late in
      let sn : stage t new ≡ 1 = stage-apply t new r.creates in
      inl (omega (arith, so, sn))
  below-before _ _ (dependent_applied_first a b ha hb late h) =
      let sa : stage t a ≡ 1 = stage-apply t a ha in
      let sb : stage t b ≡ 2 = stage-late t b hb late in
      inl (omega (arith, sa, sb))

  below-chain : (x y : OrderedAction) → Path (Before t) x y → Below t x y
  below-chain _ _ (direct x y h) = below-before x y h
  below-chain _ _ (onward x y z h p) = below-onward x y z (below-before x y h) (below-chain y z p)

  pub chain-back : (x : OrderedAction) → Path (Before t) x x → ⊥
  chain-back x p = below-itself x (below-chain x x p)

  never_fall : (x y : OrderedAction) → Below t x y → stage t x ≤ stage t y
  never_fall x y (inl h) = omega (arith, h)
  never_fall x y (inr h) = omega (arith, h.0)

  pub stage-rises : (x y : OrderedAction) → Before t x y → stage t x ≤ stage t y
  stage-rises x y h = never_fall x y (below-before x y h)

  -- ---- within one stage

  -- two actions of one stage of which the first is before the second
  abbrev Level : OrderedAction → OrderedAction → Type 0
  Level x y = (IsApply x × IsApply y × (t.needs y.resource x.resource ≡ true)) ⊎ (IsDestroy x × IsDestroy y × (goes_first t x.resource y.resource ≡ true))

  before-level : (x y : OrderedAction) → stage t x ≡ stage t y → Before t x y → Level x y
  before-level _ _ e (needed_first b a hb ha h) = inl (hb, ha, h)
  before-level _ _ e (dependent_destroyed_first a b ha hb h back) = inr (ha, hb, and_from _ _ h (not_from_false _ back))
  before-level _ _ e (old_destroyed_first old new r early) =
      let so : stage t old ≡ 0 = stage-early t old (inl r.destroys) early in
      let sn : stage t new ≡ 1 = stage-apply t new r.creates in
      absurd (omega (arith, so, sn, e))
  before-level _ _ e (new_created_first old new r late) =
      let so : stage t old ≡ 2 = stage-late t old (inl r.destroys) late in
      let sn : stage t new ≡ 1 = stage-apply t new r.creates in
      absurd (omega (arith, so, sn, e))
  before-level _ _ e (dependent_applied_first a b ha hb late h) =
      let sa : stage t a ≡ 1 = stage-apply t a ha in
      let sb : stage t b ≡ 2 = stage-late t b hb late in
      absurd (omega (arith, sa, sb, e))

  not_apply : (x : OrderedAction) → IsApply x → IsDestroy x → ⊥
  not_apply x h d =
      let one : stage t x ≡ 1 = stage-apply t x h in
      elim (cases_Bool (t.late x.resource)) [
        | inl late ↦ let two : stage t x ≡ 2 = stage-late t x d late in absurd (omega (arith, one, two))
        | inr early ↦ let none : stage t x ≡ 0 = stage-early t x d early in absurd (omega (arith, one, none))
      ]

  level-onward : (x y z : OrderedAction) → Level x y → Level y z → Before t x z
  level-onward x y z (inl h) (inl k) = needed_first x z h.0 k.1 (s.strict.transitive z.resource y.resource x.resource k.2 h.2)
  level-onward x y z (inl h) (inr k) = absurd (not_apply y h.1 k.0)
  level-onward x y z (inr h) (inl k) = absurd (not_apply y k.0 h.1)
  level-onward x y z (inr h) (inr k) =
      let both = and_parts (t.needed x.resource z.resource) (not (t.needed z.resource x.resource)) (first-onward x.resource y.resource z.resource h.2 k.2) in
      dependent_destroyed_first x z h.0 k.1 both.0 (not-true _ both.1)

  pub level-strict : (x y z : OrderedAction) → stage t x ≡ stage t y → stage t y ≡ stage t z → Before t x y → Before t y z → Before t x z
  level-strict x y z e f h k = level-onward x y z (before-level x y e h) (before-level y z f k)

pub no_chain-back : NoChainLeadsBack
no_chain-back t s x p = chain-back t s x p

pub stages-never_fall : StagesNeverFall
stages-never_fall t s x y h = stage-rises t s x y h

pub stage-strict : StageIsStrict
stage-strict t s = (λ x h. chain-back t s x (direct x x h), λ x y z e f h k. level-strict t s x y z e f h k)

-- ---- the same as a test

abbrev pub is_below : OrderInputView → OrderedAction → OrderedAction → Bool
is_below t x y = ltb (stage t x) (stage t y) || (eqb (stage t x) (stage t y) && tied t (stage t x) x.resource y.resource)

pub below-from_test : (t : OrderInputView) (x y : OrderedAction) → is_below t x y ≡ true → Below t x y
below-from_test t x y h = elim (or_cases _ _ h) [
  | inl less ↦ inl (ltb-true (stage t x) (stage t y) less)
  | inr same ↦ let p = and_parts (eqb (stage t x) (stage t y)) (tied t (stage t x) x.resource y.resource) same in inr (eqb-true (stage t x) (stage t y) p.0, p.1)
]

pub test-from_below : (t : OrderInputView) (x y : OrderedAction) → Below t x y → is_below t x y ≡ true
test-from_below t x y (inl h) = or_left _ _ (lt-ltb (stage t x) (stage t y) h)
test-from_below t x y (inr h) = or_right _ _ (and_from _ _ (eq-eqb (stage t x) (stage t y) h.0) h.1)
