-- Refinement is an order, and what refines both ways is equal.
use Rattle.std.proofs.Common.{◌≡◌, ℕ, suc, List, [], ◌∷◌, length, Bool, true, false, refl, sym, ap, ◌∙◌, subst, IsTrue}
use Rattle.std.specs.Prelude.{◌↔◌}
use Rattle.std.specs.Bool.{one_answer}
use Rattle.tf_value_data.specs.Tree.{Tree, null, boolean, whole, text, list, map, set, unknown, Items, no_items, item, Entries, no_entries, entry, same, items_view, entries_view}
use Rattle.tf_value_data.specs.Refinement.{Refines, RefinesItems, RefinesEntries}
use Rattle.tf_value_data.specs.Equality.{same_Decides}
use Rattle.tf_value_data.specs.Known.{known, known_items, known_entries}
use Rattle.tf_value_data.specs.Place.{Place, whole_value, in_item, at_key, items_around, entries_around, with_part}
use Rattle.tf_value_data.proofs.Conjunction.{and-first, and-second}
use Rattle.tf_value_data.specs.declared.value.Value.{Value}
use Rattle.tf_value_data.proofs.Views.{Entry}

pub RefinesItems-length : (vs ws : List Value) → RefinesItems (items_view vs) (items_view ws) → length vs ≡ length ws
RefinesItems-length [] [] h = refl
RefinesItems-length (v ∷ vs) (w ∷ ws) h = ap suc (RefinesItems-length vs ws h.1)
RefinesItems-length [] (w ∷ ws) h = absurd h
RefinesItems-length (v ∷ vs) [] h = absurd h

pub RefinesEntries-length : (es fs : List Entry) → RefinesEntries (entries_view es) (entries_view fs) → length es ≡ length fs
RefinesEntries-length [] [] h = refl
RefinesEntries-length (e ∷ es) (f ∷ fs) h = ap suc (RefinesEntries-length es fs h.2)
RefinesEntries-length [] (f ∷ fs) h = absurd h
RefinesEntries-length (e ∷ es) [] h = absurd h

same_item : {t u : Tree} {ts us : Items} → t ≡ u → ts ≡ us → item t ts ≡ item u us
same_item p q = cc

same_entry : {k l : List ℕ} {t u : Tree} {ts us : Entries} → k ≡ l → t ≡ u → ts ≡ us → entry k t ts ≡ entry l u us
same_entry n p q = cc

-- each value may turn out to be itself
mutual
  pub Refines-refl : (t : Tree) → Refines t t
  Refines-refl (list ts) = RefinesItems-refl ts
  Refines-refl (map es) = RefinesEntries-refl es
  Refines-refl null = tt
  Refines-refl unknown = tt
  Refines-refl _ = refl

  pub RefinesItems-refl : (ts : Items) → RefinesItems ts ts
  RefinesItems-refl no_items = tt
  RefinesItems-refl (item t ts) = (Refines-refl t, RefinesItems-refl ts)

  pub RefinesEntries-refl : (es : Entries) → RefinesEntries es es
  RefinesEntries-refl no_entries = tt
  RefinesEntries-refl (entry k t es) = (refl, Refines-refl t, RefinesEntries-refl es)

mutual
  pub Refines-antisymm : (t u : Tree) → Refines t u → Refines u t → t ≡ u
  Refines-antisymm null null h g = refl
  Refines-antisymm (boolean b) (boolean c) h g = ap boolean h
  Refines-antisymm (whole y) (whole z) h g = ap whole h
  Refines-antisymm (text s) (text t) h g = ap text h
  Refines-antisymm (list ts) (list us) h g = ap list (RefinesItems-antisymm ts us h g)
  Refines-antisymm (map ts) (map us) h g = ap map (RefinesEntries-antisymm ts us h g)
  Refines-antisymm (set ss) (set ts) h g = ap set h
  Refines-antisymm unknown unknown h g = refl
  Refines-antisymm _ _ h g = absurd (assumption)

  pub RefinesItems-antisymm : (ts us : Items) → RefinesItems ts us → RefinesItems us ts → ts ≡ us
  RefinesItems-antisymm no_items no_items h g = refl
  RefinesItems-antisymm (item t ts) (item u us) h g =
      same_item (Refines-antisymm t u h.0 g.0) (RefinesItems-antisymm ts us h.1 g.1)
  RefinesItems-antisymm _ _ h g = absurd (assumption)

  pub RefinesEntries-antisymm : (ts us : Entries) → RefinesEntries ts us → RefinesEntries us ts → ts ≡ us
  RefinesEntries-antisymm no_entries no_entries h g = refl
  RefinesEntries-antisymm (entry k t ts) (entry l u us) h g =
      same_entry h.0 (Refines-antisymm t u h.1 g.1) (RefinesEntries-antisymm ts us h.2 g.2)
  RefinesEntries-antisymm _ _ h g = absurd (assumption)

-- an answer that is right where two trees are equal is the answer of `same`
pub same_from : (r : Bool) (t u : Tree) → (IsTrue r ↔ (t ≡ u)) → r ≡ same t u
same_from r t u h = one_answer r (same t u) h (same_Decides t u)

-- two values are equal where each may turn out to be the other
pub equal_both : (t u : Tree) (b c : Bool) → (IsTrue b ↔ Refines t u) → (IsTrue c ↔ Refines u t) → b ≡ true → IsTrue c ↔ (t ≡ u)
equal_both t u b c h g e = (λ k. Refines-antisymm t u (h.0 e) (g.0 k), λ k. g.1 (subst (λ w. Refines w t) k (Refines-refl t)))

-- two values differ where one may not turn out to be the other
pub differ_one : (t u : Tree) (b : Bool) → (IsTrue b ↔ Refines t u) → b ≡ false → IsTrue b ↔ (t ≡ u)
differ_one t u b h e = (λ k. absurd (cc), λ k. h.1 (subst (λ w. Refines t w) k (Refines-refl t)))

mutual
  pub Refines-trans : (t u v : Tree) → Refines t u → Refines u v → Refines t v
  Refines-trans unknown u v h g = tt
  Refines-trans null null null h g = tt
  Refines-trans (boolean b) (boolean c) (boolean d) h g = h ∙ g
  Refines-trans (whole x) (whole y) (whole z) h g = h ∙ g
  Refines-trans (text r) (text s) (text t) h g = h ∙ g
  Refines-trans (list ts) (list us) (list vs) h g = RefinesItems-trans ts us vs h g
  Refines-trans (set rs) (set ss) (set ts) h g = h ∙ g
  Refines-trans (map ts) (map us) (map vs) h g = RefinesEntries-trans ts us vs h g
  Refines-trans _ _ _ h g = absurd (assumption)

  pub RefinesItems-trans : (ts us vs : Items) → RefinesItems ts us → RefinesItems us vs → RefinesItems ts vs
  RefinesItems-trans no_items no_items no_items h g = tt
  RefinesItems-trans (item t ts) (item u us) (item v vs) h g = (Refines-trans t u v h.0 g.0, RefinesItems-trans ts us vs h.1 g.1)
  RefinesItems-trans _ _ _ h g = absurd (assumption)

  pub RefinesEntries-trans : (ts us vs : Entries) → RefinesEntries ts us → RefinesEntries us vs → RefinesEntries ts vs
  RefinesEntries-trans no_entries no_entries no_entries h g = tt
  RefinesEntries-trans (entry k t ts) (entry l u us) (entry m v vs) h g = (h.0 ∙ g.0, Refines-trans t u v h.1 g.1, RefinesEntries-trans ts us vs h.2 g.2)
  RefinesEntries-trans _ _ _ h g = absurd (assumption)

-- a known value turns out to be itself alone
mutual
  pub Refines-known : (t u : Tree) → known t ≡ true → Refines t u → t ≡ u
  Refines-known null null e h = refl
  Refines-known (boolean b) (boolean c) e h = ap boolean h
  Refines-known (whole y) (whole z) e h = ap whole h
  Refines-known (text s) (text t) e h = ap text h
  Refines-known (list ts) (list us) e h = ap list (RefinesItems-known ts us e h)
  Refines-known (set ss) (set ts) e h = ap set h
  Refines-known (map ts) (map us) e h = ap map (RefinesEntries-known ts us e h)
  Refines-known unknown u e h = absurd (cc)
  Refines-known _ _ e h = absurd (assumption)

  pub RefinesItems-known : (ts us : Items) → known_items ts ≡ true → RefinesItems ts us → ts ≡ us
  RefinesItems-known no_items no_items e h = refl
  RefinesItems-known (item t ts) (item u us) e h =
      same_item (Refines-known t u (and-first _ _ e) h.0) (RefinesItems-known ts us (and-second _ _ e) h.1)
  RefinesItems-known _ _ e h = absurd (assumption)

  pub RefinesEntries-known : (ts us : Entries) → known_entries ts ≡ true → RefinesEntries ts us → ts ≡ us
  RefinesEntries-known no_entries no_entries e h = refl
  RefinesEntries-known (entry k t ts) (entry l u us) e h =
      same_entry h.0 (Refines-known t u (and-first _ _ e) h.1) (RefinesEntries-known ts us (and-second _ _ e) h.2)
  RefinesEntries-known _ _ e h = absurd (assumption)

items_around-refines : (before : Items) (t u : Tree) (after : Items) → Refines t u → RefinesItems (items_around before t after) (items_around before u after)
items_around-refines no_items t u after h = (h, RefinesItems-refl after)
items_around-refines (item v before) t u after h = (Refines-refl v, items_around-refines before t u after h)

entries_around-refines : (before : Entries) (k : List ℕ) (t u : Tree) (after : Entries) → Refines t u → RefinesEntries (entries_around before k t after) (entries_around before k u after)
entries_around-refines no_entries k t u after h = (refl, h, RefinesEntries-refl after)
entries_around-refines (entry l v before) k t u after h = (refl, Refines-refl v, entries_around-refines before k t u after h)

-- a value refines to the same value with a part that refines
pub with_part-refines : (p : Place) (t u : Tree) → Refines t u → Refines (with_part p t) (with_part p u)
with_part-refines whole_value t u h = h
with_part-refines (in_item before p after) t u h = items_around-refines before _ _ after (with_part-refines p t u h)
with_part-refines (at_key before k p after) t u h = entries_around-refines before k _ _ after (with_part-refines p t u h)

-- what a known value refines to is known
pub known-along : (t u : Tree) → known t ≡ true → Refines t u → known u ≡ true
known-along t u e h = ap known (sym (Refines-known t u e h)) ∙ e
