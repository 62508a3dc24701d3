-- What texts name, what is in the list of stored dependencies, and that both ends of each are places.
use Rattle.std.proofs.Common.{◌≡◌, ◌∙◌, ◌+◌, ◌<◌, ◌⊎◌, ◌++◌, ℕ, suc, Bool, true, false, not, cond, List, [], ◌∷◌, Option, None, Some, option_map, length, get_or, take, drop, map, refl, sym, ap, subst, arith, inl, inr}
use Rattle.std.specs.List.{after_first, before_first, cons_option, filter_map, flat_map, list_any, position_or_len}
use Rattle.std.specs.Prelude.{Contains, option_and_then}
use Rattle.std.proofs.lemmas.Bool.{cond-true, ne_eqb, not_from_false, or_from, or_parts, or_right}
use Rattle.std.proofs.Math.Seq.{drop-append-add, take-append_seam}
use Rattle.std.proofs.lemmas.List.Folds.{list_any-append}
use Rattle.std.proofs.lemmas.List.Elements.{Contains-append_cases, Contains-append_left, Contains-append_right, Contains-get_or}
use Rattle.tf_config_address.specs.ResourceAddr.{ResourceAddrView}
use Rattle.tf_graph.proofs.Edges.{contains_cases, contains_head, contains_tail}
use Rattle.tf_graph.specs.Digraph.{IsWithin, edge_at}
use Rattle.tf_plan_order.specs.Dependencies.{IsStoredDependency, dependencies, is_dot, named_address, named_place, pairs_from, record_pairs, resource_pairs, text_pairs}
use Rattle.tf_plan_order.specs.ResourceLaws.{AddressesAreNamed, DependenciesAreThose}
use Rattle.tf_plan_order.specs.ResourceIndex.{ResourceRefView, is_at, place_in}
use Rattle.tf_state_data.specs.Record.{RecordView}
use Rattle.tf_state_data.specs.Resource.{ResourceView}

pub no_dot : (bs : List ℕ) → ((i : ℕ) → i < length bs → get_or bs i 0 ≡ 46 → ⊥) → list_any is_dot bs ≡ false
no_dot [] h = refl
no_dot (c ∷ bs) h = or_from _ _ (ne_eqb c 46 (h 0 (omega arith))) (no_dot bs (λ i l. h (suc i) (omega (arith, l))))

dot-position : (front back : List ℕ) → list_any is_dot front ≡ false → position_or_len is_dot (front ++ 46 ∷ back) ≡ length front
dot-position [] back h = refl
dot-position (c ∷ front) back h =
    let no = or_parts (is_dot c) (list_any is_dot front) h in
    let rest : position_or_len is_dot (front ++ 46 ∷ back) ≡ length front = dot-position front back no.1 in
    let more : 1 + position_or_len is_dot (front ++ 46 ∷ back) ≡ suc (length front) = omega (arith, rest) in
    cond-true (not (is_dot c)) (1 + position_or_len is_dot (front ++ 46 ∷ back)) 0 (not_from_false (is_dot c) no.0) ∙ more

pub addresses-named : AddressesAreNamed
addresses-named addr h =
    let front = addr.type_name in
    let back = addr.name in
    let text : List ℕ = front ++ 46 ∷ back in
    let at : position_or_len is_dot text ≡ length front = dot-position front back h in
    let dotted : list_any is_dot text ≡ true = list_any-append is_dot front (46 ∷ back) ∙ or_right (list_any is_dot front) true refl in
    let before : before_first is_dot text ≡ front = ap (λ n. take n text) at ∙ take-append_seam front (46 ∷ back) in
    let after : after_first is_dot text ≡ back = ap (λ n. drop (n + 1) text) at ∙ drop-append-add front (46 ∷ back) 1 in
    cond-true (list_any is_dot text) (Some (record { type_name = before_first is_dot text; name = after_first is_dot text })) None dotted
    ∙ (λ i. Some (record { type_name = before i; name = after i }))

-- ---- places are of the list

pub option_suc : (o : Option ℕ) (n : ℕ) → option_map suc o ≡ Some n → (k : ℕ) × (o ≡ Some k) × (n ≡ suc k)
option_suc None n e = absurd (cc)
option_suc (Some k) n e = (k, refl, cc)

pub place-within : (all : List ResourceRefView) (addr : ResourceAddrView) (n : ℕ) → place_in all addr ≡ Some n → n < length all
place-within [] addr n e = absurd (cc)
place-within (x ∷ all) addr n e = by_test (is_at addr x) (λ k h. place-within all addr k h) e
  where
    by_test : (b : Bool) → ((k : ℕ) → place_in all addr ≡ Some k → k < length all) → cond b (Some 0) (option_map suc (place_in all addr)) ≡ Some n → n < suc (length all)
    by_test true again h = let zeroth : 0 ≡ n = cc in omega (arith, zeroth)
    by_test false again h =
        let next = option_suc (place_in all addr) n h in
        let inside : next.0 < length all = again next.0 next.1 in
        let is : n ≡ suc next.0 = next.2 in
        omega (arith, is, inside)

by_address : (all : List ResourceRefView) (o : Option ResourceAddrView) (n : ℕ) → option_and_then (place_in all) o ≡ Some n → n < length all
by_address all None n h = absurd (cc)
by_address all (Some addr) n h = place-within all addr n h

named-within : (all : List ResourceRefView) (text : List ℕ) (n : ℕ) → named_place all text ≡ Some n → n < length all
named-within all text n e = by_address all (named_address text) n e

-- ---- what lists made of lists have

pub in_map : {A B : Type 0} (f : A → B) (xs : List A) (y : B) → Contains (map f xs) y → (x : A) × Contains xs x × (f x ≡ y)
in_map f [] y c = absurd (omega (arith, c.1))
in_map f (x ∷ xs) y c = elim (contains_cases y (f x) (map f xs) c) [
  | inl here ↦ (x, contains_head x x xs refl, here)
  | inr rest ↦ let later = in_map f xs y rest in (later.0, contains_tail later.0 x xs later.1, later.2)
]

pub to_map : {A B : Type 0} (f : A → B) (xs : List A) (x : A) → Contains xs x → Contains (map f xs) (f x)
to_map f [] x c = absurd (omega (arith, c.1))
to_map f (y ∷ xs) x c = elim (contains_cases x y xs c) [
  | inl here ↦ contains_head (f x) (f y) (map f xs) (ap f here)
  | inr rest ↦ contains_tail (f x) (f y) (map f xs) (to_map f xs x rest)
]

in_cons : {B : Type 0} (o : Option B) (ys : List B) (y : B) → Contains (cons_option o ys) y → (o ≡ Some y) ⊎ Contains ys y
in_cons None ys y c = inr c
in_cons (Some z) ys y c = elim (contains_cases y z ys c) [ inl here ↦ inl (ap Some here) | inr rest ↦ inr rest ]

to_cons : {B : Type 0} (o : Option B) (ys : List B) (y : B) → (o ≡ Some y) ⊎ Contains ys y → Contains (cons_option o ys) y
to_cons None ys y (inl h) = absurd (cc)
to_cons None ys y (inr c) = c
to_cons (Some z) ys y (inl h) = contains_head y z ys (cc)
to_cons (Some z) ys y (inr c) = contains_tail y z ys c

in_filter_map : {A B : Type 0} (h : A → Option B) (xs : List A) (y : B) → Contains (filter_map h xs) y → (x : A) × Contains xs x × (h x ≡ Some y)
in_filter_map h [] y c = absurd (omega (arith, c.1))
in_filter_map h (x ∷ xs) y c = elim (in_cons (h x) (filter_map h xs) y c) [
  | inl here ↦ (x, contains_head x x xs refl, here)
  | inr rest ↦ let later = in_filter_map h xs y rest in (later.0, contains_tail later.0 x xs later.1, later.2)
]

to_filter_map : {A B : Type 0} (h : A → Option B) (xs : List A) (x : A) (y : B) → Contains xs x → h x ≡ Some y → Contains (filter_map h xs) y
to_filter_map h [] x y c e = absurd (omega (arith, c.1))
to_filter_map h (z ∷ xs) x y c e = elim (contains_cases x z xs c) [
  | inl here ↦ to_cons (h z) (filter_map h xs) y (inl (ap h here ∙ e))
  | inr rest ↦ to_cons (h z) (filter_map h xs) y (inr (to_filter_map h xs x y rest e))
]

in_flat_map : {A B : Type 0} (f : A → List B) (xs : List A) (y : B) → Contains (flat_map f xs) y → (x : A) × Contains xs x × Contains (f x) y
in_flat_map f [] y c = absurd (omega (arith, c.1))
in_flat_map f (x ∷ xs) y c = elim (Contains-append_cases (f x) (flat_map f xs) y c) [
  | inl here ↦ (x, contains_head x x xs refl, here)
  | inr rest ↦ let later = in_flat_map f xs y rest in (later.0, contains_tail later.0 x xs later.1, later.2)
]

to_flat_map : {A B : Type 0} (f : A → List B) (xs : List A) (x : A) (y : B) → Contains xs x → Contains (f x) y → Contains (flat_map f xs) y
to_flat_map f [] x y c d = absurd (omega (arith, c.1))
to_flat_map f (z ∷ xs) x y c d = elim (contains_cases x z xs c) [
  | inl here ↦ Contains-append_left (f z) (flat_map f xs) y (subst (λ w. Contains (f w) y) (sym here) d)
  | inr rest ↦ Contains-append_right (f z) (flat_map f xs) y (to_flat_map f xs x y rest d)
]

-- ---- the stored dependencies

module _ (all : List ResourceRefView) where
  -- what is told of a pair that a text gives
  in_texts : (at : ℕ) (texts : List (List ℕ)) (e : ℕ × ℕ) → Contains (text_pairs all at texts) e → (text : List ℕ) × Contains texts text × (named_place all text ≡ Some e.1) × (at ≡ e.0)
  in_texts at texts e c =
      let p = in_map (λ other. (at, other)) (filter_map (named_place all) texts) e c in
      let q = in_filter_map (named_place all) texts p.0 p.1 in
      (q.0, q.1, q.2 ∙ ap (λ (x : ℕ × ℕ). Some x.1) p.2, ap (λ (x : ℕ × ℕ). x.0) p.2)

  in_resource : (records : List RecordView) (o : Option ℕ) (e : ℕ × ℕ) → Contains (pairs_from all records o) e
      → (x : RecordView) × Contains records x × Contains (record_pairs all e.0 x) e × (o ≡ Some e.0)
  in_resource records None e c = absurd (omega (arith, c.1))
  in_resource records (Some at) e c =
      let p = in_flat_map (record_pairs all at) records e c in
      let q = in_texts at p.0.dependencies e p.2 in
      (p.0, p.1, subst (λ n. Contains (record_pairs all n p.0) e) q.3 p.2, ap Some q.3)

  to_resource : (records : List RecordView) (o : Option ℕ) (at : ℕ) (e : ℕ × ℕ) → o ≡ Some at → Contains (flat_map (record_pairs all at) records) e → Contains (pairs_from all records o) e
  to_resource records o at e is c = subst (λ p. Contains (pairs_from all records p) e) (sym is) c

  from_list : (resources : List ResourceView) (place other : ℕ) → Contains (dependencies all resources) (place, other) → IsStoredDependency all resources place other
  from_list resources place other c =
      let p = in_flat_map (resource_pairs all) resources (place, other) c in
      let q = in_resource p.0.records (place_in all p.0.addr) (place, other) p.2 in
      let t = in_texts place q.0.dependencies (place, other) q.2 in
      record { resource = p.0; of_state = p.1; own_place = q.3; object = q.0; of_resource = q.1; text = t.0; listed = t.1; other_place = t.2 }

  to_list : (resources : List ResourceView) (place other : ℕ) → IsStoredDependency all resources place other → Contains (dependencies all resources) (place, other)
  to_list resources place other d =
      let texts = d.object.dependencies in
      let named = to_filter_map (named_place all) texts d.text other d.listed d.other_place in
      let paired = to_map (λ n. (place, n)) (filter_map (named_place all) texts) other named in
      let own = to_flat_map (record_pairs all place) d.resource.records d.object (place, other) d.of_resource paired in
      to_flat_map (resource_pairs all) resources d.resource (place, other) d.of_state (to_resource d.resource.records (place_in all d.resource.addr) place (place, other) d.own_place own)

  pub pairs-within : (resources : List ResourceView) → IsWithin (length all) (dependencies all resources)
  pairs-within resources = record {
    source_below = λ i h. let d = at i h in place-within all d.resource.addr (edge_at (dependencies all resources) i).0 d.own_place;
    target_below = λ i h. let d = at i h in named-within all d.text (edge_at (dependencies all resources) i).1 d.other_place;
  }
    where
      at : (i : ℕ) → i < length (dependencies all resources) → IsStoredDependency all resources (edge_at (dependencies all resources) i).0 (edge_at (dependencies all resources) i).1
      at i h = from_list resources (edge_at (dependencies all resources) i).0 (edge_at (dependencies all resources) i).1 (Contains-get_or (dependencies all resources) i (0, 0) h)

pub dependencies-those : DependenciesAreThose
dependencies-those all resources place other = (λ c. from_list all resources place other c, λ d. to_list all resources place other d)
