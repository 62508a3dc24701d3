-- Attributes put in byte order, one by one.
use Rattle.std.proofs.Common.{◌≡◌, ℕ, ◌+◌, ◌≤◌, List, [], ◌∷◌, ◌++◌, length, insert, Bool, true, false, ◌&&◌, ◌||◌, not, refl, sym, ap, ◌∙◌, arith, add-one, cond, map}
use Rattle.std.proofs.lemmas.List.{map-append, take-map, drop-map}
use Rattle.std.specs.Prelude.{Some, None, nat_lt, string_bytes}
use Rattle.std.specs.List.{list_all, list_any}
use Rattle.std.proofs.Common.{Ordering, Less, Equal, Greater}
use Rattle.std.specs.Ordering.{nat_cmp, is_lt, is_eq, ordering_reverse}
use Rattle.std.specs.Cmp.Lexicographic.{slice_cmp, nat_list_cmp_total}
use Rattle.std.specs.Str.{bytes_eq}
use Rattle.std.proofs.lemmas.Bool.Decides.{nat_tests}
use Rattle.std.proofs.lemmas.Map.Text.{is_eq-slice_cmp}
use Rattle.tf_config_address.specs.Name.{is_name}
use Rattle.tf_provider_protocol.specs.declared.schema.Attribute.{Attribute}
use Rattle.tf_provider_protocol.specs.Schema.{attribute_of, AttributeView, IsSchema, placed, place_in, in_order, is_below, ascends, name_is_in, names_differ, is_reserved, fault_of}
use Rattle.tf_value_data.proofs.Conjunction.{and-first, and-second, and-both}

-- an attribute is inserted before the first whose name isn't below its own
pub placed-insert : (xs : List AttributeView) (a : AttributeView) → placed xs a ≡ insert xs (place_in xs a.name) a
placed-insert [] a = refl
placed-insert (b ∷ bs) a =
    let rest = placed-insert bs a in
    elim (is_below b.name a.name) as (λ t. cond t (b ∷ placed bs a) (a ∷ b ∷ bs) ≡ insert (b ∷ bs) (cond t (place_in bs a.name + 1) 0) a) [
      | true ↦ rw (add-one, rest) refl
      | false ↦ refl
    ]

-- an attribute inserted at its place in the code's list is put in its place
pub insert-placed : (xs : List Attribute) (a : Attribute) (i : ℕ) → i ≡ place_in (map attribute_of xs) (string_bytes a.name) → map attribute_of (insert xs i a) ≡ placed (map attribute_of xs) (attribute_of a)
insert-placed xs a i e =
    let placed_is = placed-insert (map attribute_of xs) (attribute_of a) in
    rw (placed_is, e) (simp (map-append, take-map, drop-map, add-one))

pub place_in-length : (xs : List AttributeView) (name : List ℕ) → place_in xs name ≤ length xs
place_in-length [] name = omega arith
place_in-length (b ∷ bs) name =
    let rest : place_in bs name ≤ length bs = place_in-length bs name in
    elim (is_below b.name name) as (λ t. cond t (place_in bs name + 1) 0 ≤ length (b ∷ bs)) [
      | true ↦ omega arith
      | false ↦ omega arith
    ]

-- attributes put among others, from the last one on
abbrev pub placed_all : List AttributeView → List AttributeView → List AttributeView
placed_all done [] = done
placed_all done (a ∷ rest) = placed (placed_all done rest) a

pub placed_all-push : (done xs : List AttributeView) (a : AttributeView) → placed_all done (xs ++ a ∷ []) ≡ placed_all (placed done a) xs
placed_all-push done [] a = refl
placed_all-push done (x ∷ xs) a = ap (λ ys. placed ys x) (placed_all-push done xs a)

pub placed_all-none : (xs : List AttributeView) → placed_all [] xs ≡ in_order xs
placed_all-none [] = refl
placed_all-none (x ∷ xs) = ap (λ ys. placed ys x) (placed_all-none xs)

-- what is put in order keeps its length and the tests that all or some pass
pub length-placed : (xs : List AttributeView) (a : AttributeView) → length (placed xs a) ≡ length xs + 1
length-placed [] a = refl
length-placed (b ∷ bs) a =
    let rest : length (placed bs a) ≡ length bs + 1 = length-placed bs a in
    elim (is_below b.name a.name) as (λ t. length (cond t (b ∷ placed bs a) (a ∷ b ∷ bs)) ≡ length (b ∷ bs) + 1) [
      | true ↦ omega arith
      | false ↦ omega arith
    ]

and_swap : (x y z : Bool) → (x && (y && z)) ≡ (y && (x && z))
and_swap true true z = refl
and_swap true false z = refl
and_swap false true z = refl
and_swap false false z = refl

or_swap : (x y z : Bool) → (x || (y || z)) ≡ (y || (x || z))
or_swap true true z = refl
or_swap true false z = refl
or_swap false true z = refl
or_swap false false z = refl

pub list_all-placed : (p : AttributeView → Bool) (xs : List AttributeView) (a : AttributeView) → list_all p (placed xs a) ≡ (p a && list_all p xs)
list_all-placed p [] a = refl
list_all-placed p (b ∷ bs) a =
    let rest = list_all-placed p bs a in
    elim (is_below b.name a.name) as (λ t. list_all p (cond t (b ∷ placed bs a) (a ∷ b ∷ bs)) ≡ (p a && (p b && list_all p bs))) [
      | true ↦ rw rest (and_swap (p b) (p a) (list_all p bs))
      | false ↦ refl
    ]

pub list_any-placed : (p : AttributeView → Bool) (xs : List AttributeView) (a : AttributeView) → list_any p (placed xs a) ≡ (p a || list_any p xs)
list_any-placed p [] a = refl
list_any-placed p (b ∷ bs) a =
    let rest = list_any-placed p bs a in
    elim (is_below b.name a.name) as (λ t. list_any p (cond t (b ∷ placed bs a) (a ∷ b ∷ bs)) ≡ (p a || (p b || list_any p bs))) [
      | true ↦ rw rest (or_swap (p b) (p a) (list_any p bs))
      | false ↦ refl
    ]

pub length-in_order : (xs : List AttributeView) → length (in_order xs) ≡ length xs
length-in_order [] = refl
length-in_order (x ∷ xs) = let rest : length (in_order xs) ≡ length xs = length-in_order xs in omega (arith, length-placed (in_order xs) x)

pub list_all-in_order : (p : AttributeView → Bool) (xs : List AttributeView) → list_all p (in_order xs) ≡ list_all p xs
list_all-in_order p [] = refl
list_all-in_order p (x ∷ xs) = list_all-placed p (in_order xs) x ∙ ap (λ t. p x && t) (list_all-in_order p xs)

pub list_any-in_order : (p : AttributeView → Bool) (xs : List AttributeView) → list_any p (in_order xs) ≡ list_any p xs
list_any-in_order p [] = refl
list_any-in_order p (x ∷ xs) = list_any-placed p (in_order xs) x ∙ ap (λ t. p x || t) (list_any-in_order p xs)

is_lt-Less : (o : Ordering) → is_lt o ≡ true → o ≡ Less
is_lt-Less Less h = refl
is_lt-Less Equal h = cc
is_lt-Less Greater h = cc

pub below-trans : (a b c : List ℕ) → is_below a b ≡ true → is_below b c ≡ true → is_below a c ≡ true
below-trans a b c h k = ap is_lt (nat_list_cmp_total.trans a b c (is_lt-Less _ h) (is_lt-Less _ k))

reversed_below : (o : Ordering) → is_lt o ≡ false → is_eq o ≡ false → is_lt (ordering_reverse o) ≡ true
reversed_below Less h k = cc
reversed_below Equal h k = cc
reversed_below Greater h k = refl

-- of two names that differ one is below the other
pub below-other : (a b : List ℕ) → is_below b a ≡ false → bytes_eq b a ≡ false → is_below a b ≡ true
below-other a b h k =
    ap is_lt (nat_list_cmp_total.antisymm a b) ∙ reversed_below (slice_cmp nat_cmp b a) h (is_eq-slice_cmp b a ∙ k)

or_left : (x y : Bool) → (x || y) ≡ false → x ≡ false
or_left true y h = h
or_left false y h = refl

or_right : (x y : Bool) → (x || y) ≡ false → y ≡ false
or_right true y h = cc
or_right false y h = h

-- a name below another is below all that the other is below
below_all : (a b : List ℕ) (xs : List AttributeView) → is_below a b ≡ true → list_all (λ c. is_below b c.name) xs ≡ true → list_all (λ c. is_below a c.name) xs ≡ true
below_all a b [] h k = refl
below_all a b (x ∷ xs) h k =
    and-both _ _ (below-trans a b x.name h (and-first _ _ k)) (below_all a b xs h (and-second _ _ k))

pub ascends-placed : (xs : List AttributeView) (a : AttributeView) → ascends xs ≡ true → name_is_in xs a.name ≡ false → ascends (placed xs a) ≡ true
ascends-placed [] a h k = refl
ascends-placed (b ∷ bs) a h k =
    elim (is_below b.name a.name) as (λ t. is_below b.name a.name ≡ t → ascends (cond t (b ∷ placed bs a) (a ∷ b ∷ bs)) ≡ true) [
      | true ↦ λ e.
          and-both _ _ (list_all-placed (λ c. is_below b.name c.name) bs a ∙ and-both _ _ e (and-first _ _ h))
          (ascends-placed bs a (and-second _ _ h) (or_right _ _ k))
      | false ↦ λ e.
          let first : is_below a.name b.name ≡ true = below-other a.name b.name e (or_left _ _ k) in
          and-both _ _ (and-both _ _ first (below_all a.name b.name bs first (and-first _ _ h))) h
    ] refl

not_false : (b : Bool) → not b ≡ true → b ≡ false
not_false true h = sym h
not_false false h = refl

pub ascends-in_order : (xs : List AttributeView) → names_differ xs ≡ true → ascends (in_order xs) ≡ true
ascends-in_order [] h = refl
ascends-in_order (x ∷ xs) h =
    ascends-placed (in_order xs) x (ascends-in_order xs (and-second _ _ h))
    (list_any-in_order (λ b. bytes_eq b.name x.name) xs ∙ not_false _ (and-first _ _ h))

-- what the tests of a schema's attributes say where no test finds a fault
no_fault : (many named reserved differ : Bool) → {F : Type 0} (a b c d : F)
    → cond many (Some a) (cond (not named) (Some b) (cond reserved (Some c) (cond (not differ) (Some d) None))) ≡ None
    → (many ≡ false) × (named ≡ true) × (reserved ≡ false) × (differ ≡ true)
no_fault true named reserved differ a b c d h = absurd (cc)
no_fault false false reserved differ a b c d h = absurd (cc)
no_fault false true true differ a b c d h = absurd (cc)
no_fault false true false false a b c d h = absurd (cc)
no_fault false true false true a b c d h = (refl, refl, refl, refl)

few_from_test : (m n : ℕ) → m ≡ n → nat_lt 200 n ≡ false → m ≤ 200
few_from_test m n e h = grind (arith, nat_tests)

-- attributes without a fault make a schema
pub is_schema : (version : ℕ) (xs : List AttributeView) → fault_of xs ≡ None → IsSchema (record { version = version; attributes = in_order xs })
is_schema version xs h =
    let facts = no_fault (nat_lt 200 (length xs)) (list_all (λ a. is_name a.name) xs) (list_any (λ a. is_reserved a.name) xs) (names_differ xs) _ _ _ _ h in
    record {
      few = few_from_test (length (in_order xs)) (length xs) (length-in_order xs) facts.0;
      named = list_all-in_order (λ a. is_name a.name) xs ∙ facts.1;
      free = list_any-in_order (λ a. is_reserved a.name) xs ∙ facts.2;
      ascending = ascends-in_order xs facts.3;
    }
