-- Which marked places are the wanted ones.
use Rattle.std.proofs.Common.{◌≡◌, ◌<◌, ◌≤◌, ◌+◌, ℕ, zero, suc, Bool, true, false, List, [], ◌∷◌, ◌++◌, length, set, take, drop, replicate, Contains, refl, sym, ap, ◌∙◌, inl, inr, arith}
use Rattle.std.proofs.lemmas.Bool.{cases_eq, cases_lt}
use Rattle.std.proofs.lemmas.List.{get_or-set_same, get_or-set_other, get_or_default, get_or_past, get_or-take, length-set, length-take, take_all}
use Rattle.std.specs.Prelude.{◌↔◌, ◌⊎◌, slice_index}
use Rattle.tf_config_data.specs.Names.{NameView, meant_at, directly_before}
use Rattle.tf_graph.proofs.Edges.{all_by_contained, contains_head, contains_tail, contains_cases}
use Rattle.tf_graph.proofs.Solving.{all_by_at}
use Rattle.tf_graph.specs.NodeSet.{has}
use Rattle.tf_graph.specs.Order.{IsInOrder}
use Rattle.tf_config_names.proofs.Tables.{drop_all}
use Rattle.tf_walk_names.specs.Wanted.{AreClosedForLocals, IsWanted, itself, by_local, is_local}

-- what a marked local at a place names
abbrev pub Spreads : List NameView → List Bool → ℕ → ℕ → Type 0
Spreads names w p n = (has w p ≡ true) × (is_local (meant_at names p) ≡ true) × Contains (directly_before names p) n

-- no marked local stands there
pub spreads_not : (names : List NameView) (w : List Bool) (p : ℕ) → (has w p ≡ true → is_local (meant_at names p) ≡ true → ⊥)
    → (n : ℕ) → (has w n ≡ true) ↔ ((has w n ≡ true) ⊎ Spreads names w p n)
spreads_not names w p none n = (λ marked. inl marked, λ either. elim either [ inl marked ↦ marked | inr new ↦ absurd (none new.0 new.1) ])

-- one does
pub spreads_on : (names : List NameView) (w now : List Bool) (p : ℕ) → has w p ≡ true → is_local (meant_at names p) ≡ true
    → ((n : ℕ) → (has now n ≡ true) ↔ ((has w n ≡ true) ⊎ Contains (directly_before names p) n))
    → (n : ℕ) → (has now n ≡ true) ↔ ((has w n ≡ true) ⊎ Spreads names w p n)
spreads_on names w now p here is marked n = (
  λ h. elim ((marked n).0 h) [ inl was ↦ inl was | inr new ↦ inr (here, is, new) ],
  λ either. elim either [ inl was ↦ (marked n).1 (inl was) | inr new ↦ (marked n).1 (inr new.2) ],
)

-- marks once the places of the order from one on are looked into
pub record AreSpread (names : List NameView) (order others : List ℕ) (i : ℕ) (w : List Bool) : Type 0 where
  pub long : length w ≡ length names
  pub first : (n : ℕ) → Contains others n → has w n ≡ true
  pub led : (n : ℕ) → has w n ≡ true → IsWanted names others n
  pub closed : (k a : ℕ) → i ≤ k → k < length order → has w (slice_index order k) ≡ true → is_local (meant_at names (slice_index order k)) ≡ true
      → Contains (directly_before names (slice_index order k)) a → has w a ≡ true

pub spread_start : (names : List NameView) (order others : List ℕ) (none w : List Bool) → length w ≡ length names → ((n : ℕ) → has none n ≡ false)
    → ((n : ℕ) → (has w n ≡ true) ↔ ((has none n ≡ true) ⊎ Contains others n)) → AreSpread names order others (length order) w
spread_start names order others none w long empty marked = record {
  long = long;
  first = λ n c. (marked n).1 (inr c);
  led = λ n h. elim ((marked n).0 h) [
    | inl was ↦ let not : has none n ≡ false = empty n in absurd (cc)
    | inr c ↦ itself n c
  ];
  closed = λ k a past below h is c. absurd (omega arith);
}

-- what stands directly before a place of the order stands in the order before it, and so not after it
not_later : (names : List NameView) (order : List ℕ) (i k : ℕ) → IsInOrder (directly_before names) order → i < length order → i ≤ k → k < length order
    → Contains (directly_before names (slice_index order i)) (slice_index order k) → ⊥
not_later names order i k ordered h later below c =
    let n : ℕ = slice_index order k in
    let entered : Contains (take i order) n = all_by_at (λ a. Contains (take i order) a) (directly_before names (slice_index order i)) n (ordered.after i h) c in
    let j : ℕ = entered.0 in
    let short = length-take i order in
    let before : j < i = omega (arith, entered.1, short) in
    let inside : j < length order = omega (arith, before, h) in
    let same : slice_index order j ≡ n = sym (get_or_default order j n 0 inside) ∙ sym (get_or-take i order j n before) ∙ entered.2 in
    ordered.once j k (omega (arith, before, later)) below same

-- one place more
pub spread_more : (names : List NameView) (order others : List ℕ) (i upto p : ℕ) (w now : List Bool) → IsInOrder (directly_before names) order → i < length order → i + 1 ≡ upto → p ≡ slice_index order i
    → length now ≡ length w → ((n : ℕ) → (has now n ≡ true) ↔ ((has w n ≡ true) ⊎ Spreads names w p n))
    → AreSpread names order others upto w → AreSpread names order others i now
spread_more names order others i upto p w now ordered h next is long marked s = record {
  long = long ∙ s.long;
  first = λ n c. (marked n).1 (inl (s.first n c));
  led = λ n new. elim ((marked n).0 new) [
    | inl was ↦ s.led n was
    | inr spread ↦ by_local p n (s.led p spread.0) spread.1 spread.2
  ];
  closed = λ k a past below new local c. elim (cases_eq k i) [
    | inl here ↦
        let there : slice_index order k ≡ p = ap (slice_index order) here ∙ sym is in
        let local_there : is_local (meant_at names p) ≡ true = (rw there at local) in
        let c_there : Contains (directly_before names p) a = (rw there at c) in
        let new_there : has now p ≡ true = (rw there at new) in
        elim ((marked p).0 new_there) [
          | inl was ↦ (marked a).1 (inr (was, local_there, c_there))
          | inr spread ↦ (marked a).1 (inr (spread.0, local_there, c_there))
        ]
    | inr other ↦
        elim ((marked (slice_index order k)).0 new) [
          | inl was ↦ (marked a).1 (inl (s.closed k a (omega (arith, past, next)) below was local c))
          | inr spread ↦ absurd (not_later names order i k ordered h past below (rw is at spread.2))
        ]
  ];
}

-- a member is no place past the end
pub member_below : (wanted : List Bool) (n : ℕ) → has wanted n ≡ true → n < length wanted
member_below wanted n h = elim (cases_lt n (length wanted)) [
  | inl below ↦ below
  | inr past ↦ let none : has wanted n ≡ false = get_or_past wanted n false past in absurd (cc)
]

marked_wanted : (names : List NameView) (order others : List ℕ) (w : List Bool) → ((n : ℕ) → n < length names → Contains order n) → AreSpread names order others 0 w
    → (n : ℕ) → IsWanted names others n → has w n ≡ true
marked_wanted names order others w whole s _ (itself n c) = s.first n c
marked_wanted names order others w whole s _ (by_local a n wants is c) =
    let marked : has w a ≡ true = marked_wanted names order others w whole s a wants in
    let inside : a < length w = member_below w a marked in
    let held : Contains order a = whole a (omega (arith, inside, s.long)) in
    let k : ℕ = held.0 in
    let there : slice_index order k ≡ a = sym (get_or_default order k a 0 held.1) ∙ held.2 in
    s.closed k n (omega arith) held.1 (rw there marked) (rw there is) (rw there c)

-- the whole order is looked into
pub spread_all : (names : List NameView) (order others : List ℕ) (i : ℕ) (w : List Bool) → ((n : ℕ) → n < length names → Contains order n) → i ≡ 0 → AreSpread names order others i w
    → (n : ℕ) → (has w n ≡ true) ↔ IsWanted names others n
spread_all names order others i w whole start s n =
    let all : AreSpread names order others 0 w = (rw start at s) in
    (all.led n, marked_wanted names order others w whole all n)

-- with a wanted local all that it names is wanted
pub wanted_closed : (names : List NameView) (others : List ℕ) (w : List Bool) → ((n : ℕ) → (has w n ≡ true) ↔ IsWanted names others n) → AreClosedForLocals names w
wanted_closed names others w each n h is =
    all_by_contained (λ a. has w a ≡ true) (directly_before names n) (λ a c. (each a).1 (by_local n a ((each n).0 h) is c))

-- no mark is among none
pub empty_marks : (count n : ℕ) → has (replicate count false) n ≡ false
empty_marks zero n = refl
empty_marks (suc count) zero = refl
empty_marks (suc count) (suc n) = empty_marks count n
