-- Entries that are made one after another, in byte order of their keys.
use Rattle.std.proofs.Common.{◌≡◌, ℕ, Bool, true, false, ◌&&◌, List, ◌∷◌, Ordering, Less, Equal, Greater, Result, Ok, Err, nat_cmp, refl, ap, ◌∙◌}
use Rattle.std.proofs.lemmas.Cmp.{nat_list_cmp_total}
use Rattle.std.specs.Cmp.Lexicographic.{slice_cmp}
use Rattle.std.specs.List.{list_all}
use Rattle.std.specs.Ordering.{ordering_reverse, is_lt}
use Rattle.tf_provider_protocol.specs.Schema.{AttributeView, is_below, ascends}
use Rattle.tf_value_data.specs.Tree.{Tree, Entries, no_entries, entry, put}
use Rattle.tf_plan_object.specs.Planned.{with_value}
use Rattle.tf_plan_object.specs.Stepped.{put_value}
use Rattle.tf_plan_object.specs.declared.argument.ArgumentFault.{ArgumentFault}

-- entries, and then others
abbrev pub onto : Entries → Entries → Entries
onto no_entries rest = rest
onto (entry k t es) rest = entry k t (onto es rest)

-- each key comes before each of these attributes
abbrev pub keys_below : Entries → List AttributeView → Bool
keys_below no_entries others = true
keys_below (entry k t es) others = list_all (λ a. is_below k a.name) others && keys_below es others

first_true : (b c : Bool) → (b && c) ≡ true → b ≡ true
first_true true c e = refl
first_true false c e = e

later_true : (b c : Bool) → (b && c) ≡ true → c ≡ true
later_true true c e = e
later_true false c e = absurd (cc)

both_true : (b c : Bool) → b ≡ true → c ≡ true → (b && c) ≡ true
both_true b c e f = rw (e, f) refl

less_from_lt : (o : Ordering) → is_lt o ≡ true → o ≡ Less
less_from_lt Less e = refl
less_from_lt Equal e = absurd (cc)
less_from_lt Greater e = absurd (cc)

-- what comes after is greater
above : (k l : List ℕ) → is_below l k ≡ true → slice_cmp nat_cmp k l ≡ Greater
above k l e = nat_list_cmp_total.antisymm k l ∙ ap ordering_reverse (less_from_lt (slice_cmp nat_cmp l k) e)

-- a key above all others goes last
put_last : (es : Entries) (a : AttributeView) (others : List AttributeView) (t : Tree) (rest : Entries) → keys_below es (a ∷ others) ≡ true → onto (put a.name t es) rest ≡ onto es (entry a.name t rest)
put_last no_entries a others t rest h = refl
put_last (entry l u es) a others t rest h =
    let here = first_true (list_all (λ b. is_below l b.name) (a ∷ others)) (keys_below es (a ∷ others)) h in
    let later = later_true (list_all (λ b. is_below l b.name) (a ∷ others)) (keys_below es (a ∷ others)) h in
    rw (above a.name l (first_true (is_below l a.name) _ here)) (ap (entry l u) (put_last es a others t rest later))

-- and then all keys are below what comes after it
below_after : (es : Entries) (a : AttributeView) (others : List AttributeView) (t : Tree) → keys_below es (a ∷ others) ≡ true → list_all (λ b. is_below a.name b.name) others ≡ true → keys_below (put a.name t es) others ≡ true
below_after no_entries a others t h g = both_true _ true g refl
below_after (entry l u es) a others t h g =
    let here = first_true (list_all (λ b. is_below l b.name) (a ∷ others)) (keys_below es (a ∷ others)) h in
    let later = later_true (list_all (λ b. is_below l b.name) (a ∷ others)) (keys_below es (a ∷ others)) h in
    rw (above a.name l (first_true (is_below l a.name) _ here)) (both_true _ _ (later_true (is_below l a.name) _ here) (below_after es a others t later g))

below_tail : (es : Entries) (a : AttributeView) (others : List AttributeView) → keys_below es (a ∷ others) ≡ true → keys_below es others ≡ true
below_tail no_entries a others h = refl
below_tail (entry l u es) a others h =
    let here = first_true (list_all (λ b. is_below l b.name) (a ∷ others)) (keys_below es (a ∷ others)) h in
    let later = later_true (list_all (λ b. is_below l b.name) (a ∷ others)) (keys_below es (a ∷ others)) h in
    both_true _ _ (later_true (is_below l a.name) _ here) (below_tail es a others later)

-- one more attribute: its value goes last
pub onto-put_value : (es : Entries) (a : AttributeView) (others : List AttributeView) (planned : Result Tree ArgumentFault) (rest : Entries) → keys_below es (a ∷ others) ≡ true
    → onto (put_value a.name planned es) rest ≡ onto es (with_value a.name planned rest)
onto-put_value es a others (Ok t) rest h = put_last es a others t rest h
onto-put_value es a others (Err fault) rest h = refl

pub keys_below-put_value : (es : Entries) (a : AttributeView) (others : List AttributeView) (planned : Result Tree ArgumentFault) → keys_below es (a ∷ others) ≡ true → ascends (a ∷ others) ≡ true
    → keys_below (put_value a.name planned es) others ≡ true
keys_below-put_value es a others (Ok t) h g = below_after es a others t h (first_true (list_all (λ b. is_below a.name b.name) others) (ascends others) g)
keys_below-put_value es a others (Err fault) h g = below_tail es a others h

pub ascends-tail : (a : AttributeView) (others : List AttributeView) → ascends (a ∷ others) ≡ true → ascends others ≡ true
ascends-tail a others g = later_true (list_all (λ b. is_below a.name b.name) others) (ascends others) g

pub onto-nothing : (es : Entries) → onto es no_entries ≡ es
onto-nothing no_entries = refl
onto-nothing (entry k t es) = ap (entry k t) (onto-nothing es)
