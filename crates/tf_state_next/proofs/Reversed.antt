-- Creates and updates are recorded to the same end from the first on as from the last on.
use Rattle.std.proofs.Common.{◌≡◌, Bool, true, false, List, [], ◌∷◌, ◌++◌, map, reverse, Option, Some, None, refl, sym, ap, ◌∙◌, subst, arith}
use Rattle.std.proofs.lemmas.List.{map-append}
use Rattle.std.specs.List.{AllByRecursion, find}
use Rattle.std.specs.Option.{option_or}
use mathlib.Core.List.{reverse-cons}
use Rattle.tf_config_address.specs.ResourceAddr.{ResourceAddrView}
use Rattle.tf_state_data.specs.Resource.{ResourceView}
use Rattle.tf_state_data.specs.declared.resource.Resource.{Resource}
use Rattle.tf_state_next.proofs.Changing.{count_joined, room_fewer}
use Rattle.tf_state_next.proofs.Finding.{found_first, found_joined, found_once}
use Rattle.tf_state_next.proofs.OneByOne.{after_by, applies_it, applies_one}
use Rattle.tf_state_next.specs.Events.{ApplyView, AreApart, instance_of}
use Rattle.tf_state_next.specs.Recorded.{AreApplied, AreThere, places_among}
use Rattle.tf_state_next.specs.StateDraft.{HaveRoom, count_of}

pub reversed_map : {A B : Type 0} (f : A → B) (xs : List A) → map f (reverse xs) ≡ reverse (map f xs)
reversed_map f [] = refl
reversed_map f (x ∷ xs) = ap (map f) (reverse-cons x xs) ∙ map-append f (reverse xs) (x ∷ []) ∙ ap (λ ys. ys ++ f x ∷ []) (reversed_map f xs) ∙ sym (reverse-cons (f x) (map f xs))

all_push : {A : Type 0} (P : A → Type 0) (xs : List A) (x : A) → AllByRecursion P xs → P x → AllByRecursion P (xs ++ x ∷ [])
all_push P [] x h p = (p, tt)
all_push P (y ∷ xs) x h p = (h.0, all_push P xs x h.1 p)

all_reversed : {A : Type 0} (P : A → Type 0) (xs : List A) → AllByRecursion P xs → AllByRecursion P (reverse xs)
all_reversed P [] h = tt
all_reversed P (x ∷ xs) h = subst (AllByRecursion P) (sym (reverse-cons x xs)) (all_push P (reverse xs) x (all_reversed P xs h.1) h.0)

apart_push : {A B : Type 0} (about : A → B) (xs : List A) (x : A) → AreApart about xs → AllByRecursion (λ y. ¬ (about x ≡ about y)) xs → AreApart about (xs ++ x ∷ [])
apart_push about [] x apart other = (tt, tt)
apart_push about (y ∷ xs) x apart other = (all_push (λ z. ¬ (about y ≡ about z)) xs x apart.0 (λ e. other.0 (sym e)), apart_push about xs x apart.1 other.1)

-- no two are about the same, in whatever order
pub apart_reversed : {A B : Type 0} (about : A → B) (xs : List A) → AreApart about xs → AreApart about (reverse xs)
apart_reversed about [] h = tt
apart_reversed about (x ∷ xs) h =
    subst (AreApart about) (sym (reverse-cons x xs)) (apart_push about (reverse xs) x (apart_reversed about xs h.1) (all_reversed (λ y. ¬ (about x ≡ about y)) xs h.0))

or_none : {A : Type 0} (o : Option A) → option_or o None ≡ o
or_none None = refl
or_none (Some x) = refl

-- so the one that is about something is found
found_reversed : {A B : Type 0} (about : A → B) (q : A → Bool) (k : B) → ((y : A) → q y ≡ true → about y ≡ k) → (xs : List A) → AreApart about xs → find q (reverse xs) ≡ find q xs
found_reversed about q k one [] h = refl
found_reversed about q k one (x ∷ xs) h =
    ap (find q) (reverse-cons x xs) ∙ found_joined q (reverse xs) (x ∷ []) ∙ ap (λ o. option_or o (find q (x ∷ []))) (found_reversed about q k one xs h.1) ∙ by_test (q x) refl
  where
    by_test : (b : Bool) → q x ≡ b → option_or (find q xs) (find q (x ∷ [])) ≡ find q (x ∷ xs)
    by_test true e =
        let here : find q (x ∷ []) ≡ Some x = found_first q x [] true e in
        let none : find q xs ≡ None = found_once about q k one (x ∷ []) xs x h here in
        ap (λ o. option_or o (find q (x ∷ []))) none ∙ here ∙ sym (found_first q x xs true e)
    by_test false e = ap (option_or (find q xs)) (found_first q x [] false e) ∙ or_none (find q xs) ∙ sym (found_first q x xs false e)

-- and the same comes of them
pub applied_reversed : (xs : List ApplyView) (before after : List ResourceView) → AreApart instance_of xs → AreApplied (reverse xs) before after → AreApplied xs before after
applied_reversed xs before after apart h = record {
  known = λ addr key deposed.
      h.known addr key deposed
      ∙ ap (λ (o : Option ApplyView). after_by o key (places_among addr key before) deposed) (found_reversed instance_of (applies_it addr key) (addr, key) (applies_one addr key) xs apart);
  heads = h.heads;
}

pub there_reversed : (addrs : List ResourceAddrView) (rs : List ResourceView) → AreThere addrs rs → AreThere (reverse addrs) rs
there_reversed addrs rs h = all_reversed _ addrs h

counted_reversed : (addrs : List ResourceAddrView) (l : ResourceAddrView) → count_of (reverse addrs) l ≡ count_of addrs l
counted_reversed [] l = refl
counted_reversed (x ∷ addrs) l =
    let behind = count_joined (reverse addrs) (x ∷ []) l in
    let before = count_joined (x ∷ []) addrs l in
    let rest = counted_reversed addrs l in
    ap (λ ls. count_of ls l) (reverse-cons x addrs) ∙ omega (arith, behind, before, rest)

pub room_reversed : (addrs : List ResourceAddrView) (rs : List Resource) → HaveRoom (count_of addrs) rs → HaveRoom (count_of (reverse addrs)) rs
room_reversed addrs rs h = room_fewer (count_of addrs) (count_of (reverse addrs)) rs (λ l. let same = counted_reversed addrs l in omega (arith, same)) h
