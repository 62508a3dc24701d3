-- The members of an object: what is found at a name, and what a walk over all of them leaves.
use Rattle.std.proofs.Common.{◌≡◌, ◌⊎◌, inl, inr, ℕ, List, Option, None, Some, Ordering, Less, Equal, Greater, nat_cmp, refl, sym, ap, ◌∙◌, subst}
use Rattle.std.proofs.lemmas.Cmp.{nat_list_cmp_total, tied_itself}
use Rattle.std.proofs.lemmas.Map.Lookups.{exact_bytes}
use Rattle.std.specs.Cmp.Lexicographic.{slice_cmp}
use Rattle.std.specs.Option.{MatchOption}
use Rattle.std.specs.Ordering.{match_ordering, ordering_reverse}
use Rattle.std.specs.Prelude.{⊤}
use Rattle.serde_json.specs.Data.{Data, Members, no_members, member}
use Rattle.serde_json.specs.Find.{get_member}
use Rattle.tf_config_refusal.proofs.Checks.{AllMet-left, AllMet-right}
use Rattle.tf_config_refusal.specs.Check.{Check, AllMet}
use Rattle.tf_config_refusal.specs.Walk.{each, Builds}
use Rattle.tf_value_json.specs.Plain.{IsAny, IsSorted, AreAbove, AreOrderlyMembers}
use Rattle.tf_config_json.proofs.KeyedLists.{Collected}

-- ---- what is found at a name

-- a member has this name
abbrev pub IsNamed : List ℕ → Members → Type 0
IsNamed k no_members = ⊥
IsNamed k (member l d ms) = (k ≡ l) ⊎ IsNamed k ms

found_at : (o : Ordering) (k l : List ℕ) (d e : Data) (ms : Members) → slice_cmp nat_cmp k l ≡ o → (get_member k ms ≡ Some e → IsNamed k ms) → match_ordering o (get_member k ms) (Some d) (get_member k ms) ≡ Some e → IsNamed k (member l d ms)
found_at Less k l d e ms is more h = inr (more h)
found_at Equal k l d e ms is more h = inl (exact_bytes k l is)
found_at Greater k l d e ms is more h = inr (more h)

pub named : (k : List ℕ) (ms : Members) (e : Data) → get_member k ms ≡ Some e → IsNamed k ms
named k no_members e h = absurd (cc)
named k (member l d ms) e h = found_at (slice_cmp nat_cmp k l) k l d e ms refl (named k ms e) h

none_at : (o : Ordering) (k l : List ℕ) (d : Data) (ms : Members) → slice_cmp nat_cmp k l ≡ o → o ≡ Less → get_member k ms ≡ None → match_ordering o (get_member k ms) (Some d) (get_member k ms) ≡ None
none_at Less k l d ms is less h = h
none_at Equal k l d ms is less h = absurd (cc)
none_at Greater k l d ms is less h = absurd (cc)

-- no member is at a name below all
pub none_below : (k : List ℕ) (ms : Members) → AreAbove k ms → get_member k ms ≡ None
none_below k no_members h = refl
none_below k (member l d ms) h = none_at (slice_cmp nat_cmp k l) k l d ms refl h.0 (none_below k ms h.1)

module _ {D : Type 0} (IsMet : D → Type 0) (checks : List ℕ → Data → List (Check D)) where
  met_next : (o : Ordering) (k l : List ℕ) (d e : Data) (ms : Members) → slice_cmp nat_cmp k l ≡ o → AllMet IsMet (checks l d) → (get_member k ms ≡ Some e → AllMet IsMet (checks k e))
      → match_ordering o (get_member k ms) (Some d) (get_member k ms) ≡ Some e → AllMet IsMet (checks k e)
  met_next Less k l d e ms is own more h = more h
  met_next Equal k l d e ms is own more h =
      let same : d ≡ e = (cc) in
      subst (λ (x : Data). AllMet IsMet (checks k x)) same (subst (λ n. AllMet IsMet (checks n d)) (sym (exact_bytes k l is)) own)
  met_next Greater k l d e ms is own more h = more h

  -- the checks of the member at a name are met, if those of all are
  pub met_at : (k : List ℕ) (ms : Members) (e : Data) → AllMet IsMet (each checks ms) → get_member k ms ≡ Some e → AllMet IsMet (checks k e)
  met_at k no_members e met h = absurd (cc)
  met_at k (member l d ms) e met h =
      met_next (slice_cmp nat_cmp k l) k l d e ms refl (AllMet-left IsMet (checks l d) (each checks ms) met) (met_at k ms e (AllMet-right IsMet (checks l d) (each checks ms) met)) h

-- ---- sorted members

-- each member is what is found at its name
abbrev pub AreFound : (List ℕ → Option Data) → Members → Type 0
AreFound at no_members = ⊤
AreFound at (member k d ms) = (at k ≡ Some d) × AreFound at ms

pub found_as : (at other : List ℕ → Option Data) (ms : Members) → ((k : List ℕ) (d : Data) → IsNamed k ms → at k ≡ Some d → other k ≡ Some d) → AreFound at ms → AreFound other ms
found_as at other no_members h all = tt
found_as at other (member k d ms) h all = (h k d (inl refl) all.0, found_as at other ms (λ l e is. h l e (inr is)) all.1)

is_above : (k l : List ℕ) (ms : Members) → AreAbove k ms → IsNamed l ms → slice_cmp nat_cmp k l ≡ Less
is_above k l no_members above is = absurd is
is_above k l (member m d ms) above (inl same) = subst (λ n. slice_cmp nat_cmp k n ≡ Less) (sym same) above.0
is_above k l (member m d ms) above (inr is) = is_above k l ms above.1 is

pub all_found : (ms : Members) → AreOrderlyMembers IsAny ms → AreFound (λ k. get_member k ms) ms
all_found no_members sorted = tt
all_found (member k d ms) sorted = (
  rw (tied_itself nat_list_cmp_total k) refl,
  found_as (λ l. get_member l ms) (λ l. get_member l (member k d ms)) ms
      (λ l e is h.
      let above : slice_cmp nat_cmp l k ≡ Greater = nat_list_cmp_total.antisymm l k ∙ ap ordering_reverse (is_above k l ms sorted.0 is) in
      rw above h)
      (all_found ms sorted.2),
)

sorted_next : (o : Ordering) (k : List ℕ) (d e : Data) (ms : Members) → IsSorted d → (get_member k ms ≡ Some e → IsSorted e) → match_ordering o (get_member k ms) (Some d) (get_member k ms) ≡ Some e → IsSorted e
sorted_next Less k d e ms own more h = more h
sorted_next Equal k d e ms own more h = let same : d ≡ e = (cc) in subst IsSorted same own
sorted_next Greater k d e ms own more h = more h

pub sorted_at : (k : List ℕ) (ms : Members) (e : Data) → AreOrderlyMembers IsAny ms → get_member k ms ≡ Some e → IsSorted e
sorted_at k no_members e sorted h = absurd (cc)
sorted_at k (member l d ms) e sorted h = sorted_next (slice_cmp nat_cmp k l) k d e ms sorted.1 (sorted_at k ms e sorted.2) h

-- ---- walks

-- what is there takes the first part to the second; if nothing is there, they are the same
abbrev pub Takes : {F : Type 0} → (Data → F → F → Type 0) → Option Data → F → F → Type 0
Takes Step o a b = MatchOption o (b ≡ a) (λ d. Step d a b)

-- a part that only one name changes is what the member of this name makes it
module _ {B F : Type 0} (Adds : List ℕ → Data → B → B → Type 0) (part : B → F) (w : List ℕ) (Step : Data → F → F → Type 0)
    (own : (d : Data) (a b : B) → Adds w d a b → Step d (part a) (part b)) (other : (k : List ℕ) (d : Data) (a b : B) → (k ≡ w → ⊥) → Adds k d a b → part b ≡ part a) where
  apart_at : (o : Ordering) (k : List ℕ) → slice_cmp nat_cmp w k ≡ o → (o ≡ Equal → ⊥) → k ≡ w → ⊥
  apart_at o k is apart same = let itself : slice_cmp nat_cmp w k ≡ Equal = subst (λ n. slice_cmp nat_cmp w n ≡ Equal) (sym same) (tied_itself nat_list_cmp_total w) in apart (sym is ∙ itself)

  takes_at : (o : Ordering) (k : List ℕ) (d : Data) (ms : Members) (a c b : B) → slice_cmp nat_cmp w k ≡ o → AreAbove k ms → Adds k d a c
      → Takes Step (get_member w ms) (part c) (part b) → Takes Step (match_ordering o (get_member w ms) (Some d) (get_member w ms)) (part a) (part b)
  takes_at Less k d ms a c b is above adds more = subst (λ x. Takes Step (get_member w ms) x (part b)) (other k d a c (apart_at Less k is (λ h. absurd (cc))) adds) more
  takes_at Equal k d ms a c b is above adds more =
      let same : w ≡ k = exact_bytes w k is in
      let none : get_member w ms ≡ None = subst (λ n. get_member n ms ≡ None) (sym same) (none_below k ms above) in
      let stays : part b ≡ part c = subst (λ o. Takes Step o (part c) (part b)) none more in
      subst (λ x. Step d (part a) x) (sym stays) (own d a c (subst (λ n. Adds n d a c) (sym same) adds))
  takes_at Greater k d ms a c b is above adds more = subst (λ x. Takes Step (get_member w ms) x (part b)) (other k d a c (apart_at Greater k is (λ h. absurd (cc))) adds) more

  pub takes : (ms : Members) (a b : B) → AreOrderlyMembers IsAny ms → Builds Adds ms a b → Takes Step (get_member w ms) (part a) (part b)
  takes no_members a b sorted builds = ap part (sym builds)
  takes (member k d ms) a b sorted (c, adds, builds) = takes_at (slice_cmp nat_cmp w k) k d ms a c b refl sorted.0 adds (takes ms c b sorted.2 builds)

-- a walk collects items: each member adds those that it reaches
module _ {A B K : Type 0} (key : A → K) (cmp : K → K → Ordering) (Is : A → Type 0) (Adds : List ℕ → Data → B → B → Type 0) (part : B → List A) (Reaches : List ℕ → K → Type 0) (at : List ℕ → Option Data)
    (step : (k : List ℕ) (d : Data) (a b : B) (Met : K → Type 0) → at k ≡ Some d → Adds k d a b → Collected key cmp Is Met (part a) → Collected key cmp Is (λ x. Reaches k x ⊎ Met x) (part b)) where
  -- a member reaches this key
  abbrev pub IsReached : Members → K → Type 0
  IsReached no_members x = ⊥
  IsReached (member k d ms) x = Reaches k x ⊎ IsReached ms x

  reached_next : (k : List ℕ) (d : Data) (ms : Members) (Met : K → Type 0) (x : K) → IsReached (member k d ms) x ⊎ Met x → IsReached ms x ⊎ (Reaches k x ⊎ Met x)
  reached_next k d ms Met x (inl (inl here)) = inr (inl here)
  reached_next k d ms Met x (inl (inr later)) = inl later
  reached_next k d ms Met x (inr met) = inr (inr met)

  pub collects : (ms : Members) (a b : B) (Met : K → Type 0) → AreFound at ms → Builds Adds ms a b → Collected key cmp Is Met (part a) → Collected key cmp Is (λ x. IsReached ms x ⊎ Met x) (part b)
  collects no_members a b Met found builds c =
      let same : part a ≡ part b = ap part builds in
      let now = subst (λ xs. Collected key cmp Is Met xs) same c in
      record { order = now.order; sound = now.sound; whole = λ x is met. elim met [ inl none ↦ absurd none | inr met ↦ now.whole x is met ] }
  collects (member k d ms) a b Met found (m, adds, builds) c =
      let later = collects ms m b (λ x. Reaches k x ⊎ Met x) found.1 builds (step k d a m Met found.0 adds c) in
      record { order = later.order; sound = later.sound; whole = λ x is met. later.whole x is (reached_next k d ms Met (key x) met) }

  pub reached : (k : List ℕ) (x : K) (ms : Members) → Reaches k x → IsNamed k ms → IsReached ms x
  reached k x no_members reaches is = absurd is
  reached k x (member l d ms) reaches (inl same) = inl (subst (λ n. Reaches n x) same reaches)
  reached k x (member l d ms) reaches (inr is) = inr (reached k x ms reaches is)
