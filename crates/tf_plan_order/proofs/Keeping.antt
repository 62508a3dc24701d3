-- What is kept of a list of actions: one action more, and that it tells all that may be before an action.
use Rattle.std.proofs.Common.{◌≡◌, ◌∙◌, ◌<◌, ◌≤◌, ◌+◌, ◌⊎◌, ◌&&◌, ℕ, zero, suc, Bool, true, false, not, cond, List, [], ◌∷◌, ◌++◌, length, map, get_or, eqb, set, refl, sym, ap, ap₂, subst, arith, inl, inr, Vec}
use Rattle.std.specs.List.{flat_map, range_with_len}
use Rattle.std.specs.Prelude.{Contains}
use Rattle.std.proofs.lemmas.Bool.{and_from, cases_eq, eq-eqb, false_from_ne_true, both_ways}
use Rattle.std.proofs.lemmas.List.Elements.{Contains-append_left, Contains-push, Contains-push_cases}
use Rattle.std.proofs.lemmas.List.{map-append}
use Rattle.tf_graph.proofs.Edges.{contains_cases}
use Rattle.tf_graph.proofs.Rows.{row-add}
use Rattle.tf_graph.specs.Lists.{row}
use Rattle.tf_graph.specs.NodeSet.{has}
use Rattle.tf_plan_order.proofs.Listed.{before-tested, halves-from, halves-parts, from_made, made, made-done, made-skip, made-step, to_made}
use Rattle.tf_plan_order.specs.Before.{IsApply, Before, needed_first, dependent_destroyed_first, old_destroyed_first, new_created_first, dependent_applied_first, are_halves, is_before, is_before_by}
use Rattle.tf_plan_order.specs.Near.{AreEarly, AreListed, HasGrown, HoldsBefore, IsKept, applies, early_place, early_places}
use Rattle.tf_plan_order.specs.Order.{action_at, pair, pairs_into}
use Rattle.tf_plan_order.specs.OrderInput.{OrderInputView, order_input_of}
use Rattle.tf_plan_order.specs.declared.action.OrderedAction.{OrderedAction}
use Rattle.tf_plan_order.specs.declared.action.ActionKind.{ActionKind}
use Rattle.tf_plan_order.specs.declared.order_input.OrderInput.{OrderInput}
use Rattle.tf_plan_order.specs.declared.action.ActionKind.TheVariants.{Apply, Destroy, DestroyDeposed}

-- ---- growth

pub grown-not : (set : List Bool) → HasGrown set set
grown-not set = record { long = refl; kept = λ n h. h }

pub grown-on : (set mid more : List Bool) → HasGrown set mid → HasGrown mid more → HasGrown set more
grown-on set mid more a b = record { long = b.long ∙ a.long; kept = λ n h. b.kept n (a.kept n h) }

-- ---- one action more

pub listed-more : {A : Type 0} → (actions : List OrderedAction) (noted : ℕ) (own more : List (Vec ℕ A)) → noted < length actions → AreListed actions noted own → length more ≡ length own
    → ((r k : ℕ) → Contains (row own r) k → Contains (row more r) k)
    → ((r k : ℕ) → Contains (row more r) k → Contains (row own r) k ⊎ (k ≡ noted))
    → ((action_at actions noted).resource < length own → Contains (row more (action_at actions noted).resource) noted)
    → AreListed actions (noted + 1) more
listed-more actions noted own more inside a count kept led added = record {
  within = λ r k h. elim (led r k h) [ inl old ↦ a.within r k old | inr here ↦ rw here inside ];
  listed = λ k h room. elim (cases_eq k noted) [
    | inl here ↦ rw here (added (rw (here, count) at room))
    | inr other ↦ kept _ k (a.listed k (omega (arith, h, other)) (rw count at room))
  ];
}

early-more : {A : Type 0} → (t : OrderInputView) (actions : List OrderedAction) (noted : ℕ) (early more : List (Vec ℕ A)) → noted < length actions → AreEarly t actions noted early
    → ((s : ℕ) → row more s ≡ row early s ++ early_place t actions s noted) → AreEarly t actions (noted + 1) more
early-more t actions noted early more inside is added =
    λ s. made-step (early_place t actions s) noted (length actions) (row early s) (row more s) (early_places t actions s) inside (added s) (is s)

pub kept-more : {A : Type 0} → (t : OrderInput) (actions : List OrderedAction) (noted : ℕ) (own more early later : List (Vec ℕ A)) → noted < length actions
    → IsKept t actions noted own early → length more ≡ length own
    → ((r k : ℕ) → Contains (row own r) k → Contains (row more r) k)
    → ((r k : ℕ) → Contains (row more r) k → Contains (row own r) k ⊎ (k ≡ noted))
    → ((action_at actions noted).resource < length own → Contains (row more (action_at actions noted).resource) noted)
    → length later ≡ length early
    → ((s : ℕ) → row later s ≡ row early s ++ early_place (order_input_of t) actions s noted)
    → IsKept t actions (noted + 1) more later
kept-more t actions noted own more early later inside is count kept led added same rows = record {
  by_configuration = rw count is.by_configuration;
  by_state = rw count is.by_state;
  count = same ∙ is.count ∙ sym count;
  lists = listed-more actions noted own more inside is.lists count kept led added;
  rows = early-more (order_input_of t) actions noted early later inside is.rows rows;
}

-- one place more in the list of a resource
module _ {A : Type 0} (lists : List (Vec ℕ A)) (at place : ℕ) (list added : Vec ℕ A) (inside : at < length lists) (read : list ≡ get_or lists at list) (items : added.items ≡ (get_or lists at list).items ++ place ∷ []) where
  abbrev one_more : Bool → List ℕ → List ℕ
  one_more b xs = cond b (xs ++ place ∷ []) xs

  row_is : (r : ℕ) → row (set lists at added) r ≡ one_more (eqb at r) (row lists r)
  row_is r = row-add lists at place list added r inside read items

  pub row-kept : (r k : ℕ) → Contains (row lists r) k → Contains (row (set lists at added) r) k
  row-kept r k h = subst (λ xs. Contains xs k) (sym (row_is r)) (by_test (eqb at r))
    where
      by_test : (b : Bool) → Contains (one_more b (row lists r)) k
      by_test true = Contains-append_left (row lists r) (place ∷ []) k h
      by_test false = h

  pub row-led : (r k : ℕ) → Contains (row (set lists at added) r) k → Contains (row lists r) k ⊎ (k ≡ place)
  row-led r k h = by_test (eqb at r) (subst (λ xs. Contains xs k) (row_is r) h)
    where
      by_test : (b : Bool) → Contains (one_more b (row lists r)) k → Contains (row lists r) k ⊎ (k ≡ place)
      by_test true c = elim (Contains-push_cases (row lists r) place k c) [ inl old ↦ inl old | inr here ↦ inr (sym here) ]
      by_test false c = inl c

  pub row-added : Contains (row (set lists at added) at) place
  row-added = subst (λ xs. Contains xs place) (sym (row_is at)) (subst (λ b. Contains (one_more b (row lists at)) place) (sym (eq-eqb at at refl)) (Contains-push (row lists at) place))

-- ---- what may be before what

apart : (k : ActionKind) → k ≡ Apply → (k ≡ Destroy) ⊎ (k ≡ DestroyDeposed) → ⊥
apart k h (inl d) = cc
apart k h (inr d) = cc

abbrev pub with_second : ℕ → ℕ → ℕ × ℕ
with_second second first = (first, second)

-- whether one of two actions is before the other, where that creates or updates an object and isn't half of a replace
halves-not : (x y : OrderedAction) → y.replaces ≡ false → are_halves x y ≡ false
halves-not x y whole = false_from_ne_true _ (λ yes. both_ways y.replaces whole (halves-parts x y yes).1)

module _ (t : OrderInputView) where
  before-early : (x y : OrderedAction) → IsApply y → y.replaces ≡ false → is_before t x y ≡ (applies x.kind && t.needs y.resource x.resource)
  before-early x y apply whole = ap (λ m. is_before_by t x y x.kind m) apply ∙ by_kind x.kind
    where
      by_kind : (k : ActionKind) → is_before_by t x y k Apply ≡ (applies k && t.needs y.resource x.resource)
      by_kind Apply = refl
      by_kind Destroy = ap (λ b. b && not (t.late x.resource)) (halves-not x y whole)
      by_kind DestroyDeposed = refl

  -- the pairs of such an action are those with what is early for its resource
  pairs-listed : (actions : List OrderedAction) (second : ℕ) → IsApply (action_at actions second) → (action_at actions second).replaces ≡ false
      → pairs_into t actions second ≡ map (λ first. (first, second)) (early_places t actions (action_at actions second).resource)
  pairs-listed actions second apply whole = each (length actions) 0
    where
      by_test : (b : Bool) (first : ℕ) → cond b (with_second second first ∷ []) [] ≡ map (with_second second) (cond b (first ∷ []) [])
      by_test true first = refl
      by_test false first = refl

      one : (first : ℕ) → pair t actions second first ≡ map (with_second second) (early_place t actions (action_at actions second).resource first)
      one first = ap (λ (b : Bool). cond b (with_second second first ∷ []) []) (before-early (action_at actions first) (action_at actions second) apply whole) ∙ by_test _ first

      each : (n from : ℕ) → flat_map (pair t actions second) (range_with_len from n) ≡ map (with_second second) (flat_map (early_place t actions (action_at actions second).resource) (range_with_len from n))
      each zero from = refl
      each (suc n) from =
          ap₂ (λ xs ys. xs ++ ys) (one from) (each n (from + 1))
          ∙ sym (map-append (with_second second) (early_place t actions (action_at actions second).resource from) (flat_map (early_place t actions (action_at actions second).resource) (range_with_len (from + 1) n)))

  early-all : {A : Type 0} → (actions : List OrderedAction) (early : List (Vec ℕ A)) → AreEarly t actions (length actions) early → (s : ℕ) → row early s ≡ early_places t actions s
  early-all actions early is s = made-done (early_place t actions s) (length actions) (length actions) (row early s) (early_places t actions s) (omega arith) (is s)

  -- the same of the list that is kept
  pub pairs-kept : {A : Type 0} → (actions : List OrderedAction) (second : ℕ) (early : List (Vec ℕ A)) (places : List ℕ) → AreEarly t actions (length actions) early → IsApply (action_at actions second)
      → (action_at actions second).replaces ≡ false → places ≡ row early (action_at actions second).resource → pairs_into t actions second ≡ map (with_second second) places
  pairs-kept actions second early places is apply whole same =
      pairs-listed actions second apply whole ∙ ap (map (with_second second)) (sym (same ∙ early-all actions early is (action_at actions second).resource))

  early-has : {A : Type 0} → (actions : List OrderedAction) (early : List (Vec ℕ A)) → AreEarly t actions (length actions) early → (s k : ℕ) → k < length actions
      → IsApply (action_at actions k) → t.needs s (action_at actions k).resource ≡ true → Contains (row early s) k
  early-has actions early is s k inside apply needs =
      let test : (applies (action_at actions k).kind && t.needs s (action_at actions k).resource) ≡ true = and_from _ _ (ap applies apply) needs in
      let own : Contains (early_place t actions s k) k = subst (λ (b : Bool). Contains (cond b (k ∷ []) []) k) (sym test) (Contains-push [] k) in
      subst (λ ks. Contains ks k) (sym (early-all actions early is s)) (to_made (early_place t actions s) (length actions) 0 k k (omega arith) (omega (arith, inside)) own)

  pub early-within : {A : Type 0} → (actions : List OrderedAction) (early : List (Vec ℕ A)) → AreEarly t actions (length actions) early → (s k : ℕ) → Contains (row early s) k → k < length actions
  early-within actions early is s k h =
      let p = from_made (early_place t actions s) (length actions) 0 k (subst (λ ks. Contains ks k) (early-all actions early is s) h) in
      let same : p.0 ≡ k = own (applies (action_at actions p.0).kind && t.needs s (action_at actions p.0).resource) p.0 p.3 in
      omega (arith, same, p.2)
    where
      own : (b : Bool) (j : ℕ) → Contains (cond b (j ∷ []) []) k → j ≡ k
      own true j c = elim (contains_cases k j [] c) [ inl here ↦ here | inr none ↦ absurd (omega (arith, none.1)) ]
      own false j c = absurd (omega (arith, c.1))

  near-apply : (x y : OrderedAction) → Before t x y → IsApply y → (are_halves x y ≡ true) ⊎ (IsApply x × (t.needs y.resource x.resource ≡ true))
  near-apply _ _ (needed_first x y hx hy needs) apply = inr (hx, needs)
  near-apply _ _ (dependent_destroyed_first x y hx hy h back) apply = absurd (apart y.kind apply hy)
  near-apply _ _ (old_destroyed_first x y r early) apply = inl (halves-from x y r.old_half r.new_half r.resource r.instance)
  near-apply _ _ (new_created_first y x r late) apply = absurd (apart y.kind apply (inl r.destroys))
  near-apply _ _ (dependent_applied_first x y hx hy late h) apply = absurd (apart y.kind apply hy)

  near-destroy : (x y : OrderedAction) → Before t x y → (IsApply y → ⊥) → (are_halves x y ≡ true) ⊎ ((t.needs x.resource y.resource ≡ true) ⊎ (t.needed x.resource y.resource ≡ true))
  near-destroy _ _ (needed_first x y hx hy needs) not_apply = absurd (not_apply hy)
  near-destroy _ _ (dependent_destroyed_first x y hx hy h back) not_apply = inr (inr h)
  near-destroy _ _ (old_destroyed_first x y r early) not_apply = absurd (not_apply r.creates)
  near-destroy _ _ (new_created_first y x r late) not_apply = inl (halves-from x y r.new_half r.old_half (sym r.resource) (sym r.instance))
  near-destroy _ _ (dependent_applied_first x y hx hy late h) not_apply = inr h

  module _ {A : Type 0} (actions : List OrderedAction) (second : ℕ) (own : List (Vec ℕ A)) (set : List Bool) (a : AreListed actions (length actions) own) (room : (action_at actions second).resource < length own)
      (halves : (k : ℕ) → Contains (row own (action_at actions second).resource) k → are_halves (action_at actions k) (action_at actions second) ≡ true → has set k ≡ true) where
    held-half : (first : ℕ) → first < length actions → are_halves (action_at actions first) (action_at actions second) ≡ true → has set first ≡ true
    held-half first inside h =
        let same = (halves-parts (action_at actions first) (action_at actions second) h).2 in
        halves first (rw (← same) (a.listed first inside (rw same room))) h

    -- before what creates or updates come the half of its replace, and what is early for its resource
    pub holds-apply : (early : List (Vec ℕ A)) → AreEarly t actions (length actions) early → IsApply (action_at actions second)
        → ((k : ℕ) → Contains (row early (action_at actions second).resource) k → has set k ≡ true)
        → HoldsBefore t actions second set
    holds-apply early is apply held first inside before =
        let x = action_at actions first in
        let y = action_at actions second in
        elim (near-apply x y ((before-tested t x y).0 before) apply) [
          | inl half ↦ held-half first inside half
          | inr needs ↦ held first (early-has actions early is y.resource first inside needs.0 needs.1)
        ]

    -- before what destroys come the half of its replace, and actions of what it leads to
    pub holds-destroy : (IsApply (action_at actions second) → ⊥)
        → ((r : ℕ) → t.needs r (action_at actions second).resource ≡ true → r < length own)
        → ((r k : ℕ) → t.needs r (action_at actions second).resource ≡ true → Contains (row own r) k → has set k ≡ true)
        → ((r : ℕ) → t.needed r (action_at actions second).resource ≡ true → r < length own)
        → ((r k : ℕ) → t.needed r (action_at actions second).resource ≡ true → Contains (row own r) k → has set k ≡ true)
        → HoldsBefore t actions second set
    holds-destroy not_apply needs_inside needs needed_inside needed first inside before =
        let x = action_at actions first in
        let y = action_at actions second in
        elim (near-destroy x y ((before-tested t x y).0 before) not_apply) [
          | inl half ↦ held-half first inside half
          | inr tied ↦ elim tied [
            | inl h ↦ needs x.resource first h (a.listed first inside (needs_inside x.resource h))
            | inr h ↦ needed x.resource first h (a.listed first inside (needed_inside x.resource h))
          ]
        ]

  module _ (actions : List OrderedAction) (second : ℕ) where
    -- what is no member of a set of all that is before an action makes no pair with it
    no_pair : (near : List Bool) → HoldsBefore t actions second near → (first : ℕ) → first < length actions → has near first ≡ false → pair t actions second first ≡ []
    no_pair near holds first inside none =
        let no : is_before t (action_at actions first) (action_at actions second) ≡ false = false_from_ne_true _ (λ yes. both_ways (has near first) none (holds first inside yes)) in
        ap (λ (b : Bool). cond b ((first, second) ∷ []) []) no

    -- what is made from the next member of such a set on is what is made from a number before it
    pub up_to_member : (near : List Bool) → HoldsBefore t actions second near → (from first : ℕ) (found all : List (ℕ × ℕ)) → from ≤ first → first ≤ length actions
        → ((k : ℕ) → from ≤ k → k < first → has near k ≡ false) → found ++ made (pair t actions second) from (length actions) ≡ all → found ++ made (pair t actions second) first (length actions) ≡ all
    up_to_member near holds from first found all late inside none =
        made-skip (pair t actions second) from first (length actions) found all late inside (λ k low high. no_pair near holds k (omega (arith, high, inside)) (none k low high))
