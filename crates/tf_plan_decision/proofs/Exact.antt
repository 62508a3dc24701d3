-- A prior object that fits has exactly the schema's attributes.
use Rattle.std.proofs.Common.{◌≡◌, ℕ, Bool, true, false, ◌&&◌, cond, List, [], ◌∷◌, ◌++◌, map as each, fold, Option, Some, None, option_map, Less, nat_cmp, refl, sym, ap, subst}
use Rattle.std.specs.Prelude.{◌==◌, find, is_some}
use Rattle.std.specs.Cmp.Lexicographic.{slice_cmp}
use Rattle.std.specs.Cmp.{unsigned_Decides}
use Rattle.std.specs.List.{list_all, AllByRecursion}
use Rattle.std.specs.List.Sorted.{IsStrictlySortedBy}
use Rattle.std.specs.Option.{option_map_or}
use Rattle.std.specs.Ordering.{is_lt}
use Rattle.std.specs.Str.{bytes_eq}
use Rattle.std.proofs.lemmas.Slice.Eq.{bytes_eq-Decides}
use Rattle.tf_provider_protocol.specs.Schema.{AttributeView, SchemaView, ascends, attribute_named, is_below}
use Rattle.tf_provider_protocol.specs.Verdict.{is_allowed, same_names}
use Rattle.tf_provider_protocol.proofs.Placed.{below-trans}
use Rattle.tf_value_data.specs.Tree.{Tree, null, boolean, whole, text, list, map, set, unknown, Entries, no_entries, entry, get, keys_of}
use Rattle.tf_value_data.proofs.Conjunction.{and-first, and-second, and-both}
use Rattle.tf_plan_decision.specs.Laws.{FitsExactly}
use Rattle.tf_plan_decision.specs.Names.{first_name, sooner_name}
use Rattle.tf_plan_decision.specs.Prior.{PriorFaultView, as_a_whole, at_attribute, all_misfits, has_allowed, misfits, strays}
use Rattle.tf_plan_decision.proofs.Aligned.{apart, same_name}

-- a name that was found stays, or gives way to another
sooner_some : (b : Bool) (old new : List ℕ) → is_some (cond b (Some new) (Some old)) ≡ true
sooner_some true old new = refl
sooner_some false old new = refl

fold_some : (found : Option (List ℕ)) (names : List (List ℕ)) → is_some found ≡ true → is_some (fold sooner_name found names) ≡ true
fold_some found [] h = h
fold_some None (n ∷ names) h = absurd (cc)
fold_some (Some old) (n ∷ names) h = fold_some (sooner_name (Some old) n) names (sooner_some (is_below n old) old n)

no_name : (names : List (List ℕ)) → option_map at_attribute (first_name names) ≡ None → names ≡ []
no_name [] h = refl
no_name (n ∷ names) h = absurd (none_some (first_name (n ∷ names)) (fold_some (Some n) names refl) h)
  where
    none_some : (o : Option (List ℕ)) → is_some o ≡ true → option_map at_attribute o ≡ None → ⊥
    none_some None e g = cc
    none_some (Some x) e g = cc

both_empty : (xs ys : List (List ℕ)) → xs ++ ys ≡ [] → (xs ≡ []) × (ys ≡ [])
both_empty [] ys h = (refl, h)
both_empty (x ∷ xs) ys h = absurd (cc)

kept_step : (b : Bool) (name : List ℕ) (names : List (List ℕ)) → cond b names (name ∷ names) ≡ [] → (b ≡ true) × (names ≡ [])
kept_step true name names h = (refl, h)
kept_step false name names h = absurd (cc)

all_allowed : (es : Entries) (attributes : List AttributeView) → misfits attributes es ≡ [] → list_all (has_allowed es) attributes ≡ true
all_allowed es [] h = refl
all_allowed es (a ∷ others) h =
    let both = kept_step (has_allowed es a) a.name (misfits others es) h in and-both (has_allowed es a) (list_all (has_allowed es) others) both.0 (all_allowed es others both.1)

-- each key is an attribute's name
abbrev keys_found : List AttributeView → Entries → Bool
keys_found attributes no_entries = true
keys_found attributes (entry k t es) = is_some (find (λ a. bytes_eq a.name k) attributes) && keys_found attributes es

all_found : (schema : SchemaView) (es : Entries) → strays schema es ≡ [] → keys_found schema.attributes es ≡ true
all_found schema no_entries h = refl
all_found schema (entry k t es) h =
    let both = kept_step (is_some (attribute_named k schema)) k (strays schema es) h in
    and-both (is_some (attribute_named k schema)) (keys_found schema.attributes es) both.0 (all_found schema es both.1)

some_there : (a : AttributeView) (o : Option Tree) → option_map_or (is_allowed a) o false ≡ true → is_some o ≡ true
some_there a None h = h
some_there a (Some t) h = refl

-- and each attribute's name is a key
all_there : (es : Entries) (attributes : List AttributeView) → list_all (has_allowed es) attributes ≡ true → list_all (λ a. is_some (get a.name es)) attributes ≡ true
all_there es [] h = refl
all_there es (a ∷ others) h =
    and-both (is_some (get a.name es)) (list_all (λ b. is_some (get b.name es)) others) (some_there a (get a.name es) (and-first (has_allowed es a) _ h)) (all_there es others (and-second (has_allowed es a) _ h))

-- each key comes after a name
abbrev keys_above : List ℕ → Entries → Bool
keys_above n no_entries = true
keys_above n (entry k t es) = is_below n k && keys_above n es

-- each key comes before those after it
abbrev keys_ascend : Entries → Bool
keys_ascend no_entries = true
keys_ascend (entry k t es) = keys_above k es && keys_ascend es

above_from : (n : List ℕ) (es : Entries) → AllByRecursion (λ l. slice_cmp nat_cmp n l ≡ Less) (keys_of es) → keys_above n es ≡ true
above_from n no_entries h = refl
above_from n (entry k t es) h = and-both (is_below n k) (keys_above n es) (ap is_lt h.0) (above_from n es h.1)

ascend_from : (es : Entries) → IsStrictlySortedBy (slice_cmp nat_cmp) (keys_of es) → keys_ascend es ≡ true
unfolding IsStrictlySortedBy
ascend_from no_entries h = refl
ascend_from (entry k t es) h = and-both (keys_above k es) (keys_ascend es) (above_from k es h.0) (ascend_from es h.1)

not_itself : (n : List ℕ) → is_below n n ≡ true → ⊥
not_itself n h = let far : bytes_eq n n ≡ false = apart n n h in let near : bytes_eq n n ≡ true = same_name n in cc

-- what is found among names above another is above it
found_step : (b : Bool) (n k name : List ℕ) (a : AttributeView) (rest : Option AttributeView) → bytes_eq name k ≡ b → is_below n name ≡ true → (is_some rest ≡ true → is_below n k ≡ true) → is_some (cond b (Some a) rest) ≡ true → is_below n k ≡ true
found_step true n k name a rest e h g f = subst (λ (x : List ℕ). is_below n x ≡ true) ((bytes_eq-Decides name k).0 e) h
found_step false n k name a rest e h g f = g f

found_above : (n k : List ℕ) (attributes : List AttributeView) → list_all (λ b. is_below n b.name) attributes ≡ true → is_some (find (λ b. bytes_eq b.name k) attributes) ≡ true → is_below n k ≡ true
found_above n k [] h f = absurd (cc)
found_above n k (a ∷ others) h f =
    found_step (bytes_eq a.name k) n k a.name a (find (λ b. bytes_eq b.name k) others) refl (and-first (is_below n a.name) _ h) (found_above n k others (and-second (is_below n a.name) _ h)) f

got_step : (b : Bool) (n k name : List ℕ) (t : Tree) (rest : Option Tree) → bytes_eq name k ≡ b → is_below n k ≡ true → (is_some rest ≡ true → is_below n name ≡ true) → is_some (cond b (Some t) rest) ≡ true → is_below n name ≡ true
got_step true n k name t rest e h g f = subst (λ (x : List ℕ). is_below n x ≡ true) (sym ((bytes_eq-Decides name k).0 e)) h
got_step false n k name t rest e h g f = g f

got_above : (n name : List ℕ) (es : Entries) → keys_above n es ≡ true → is_some (get name es) ≡ true → is_below n name ≡ true
got_above n name no_entries h f = absurd (cc)
got_above n name (entry k t es) h f =
    got_step (bytes_eq name k) n k name t (get name es) refl (and-first (is_below n k) _ h) (got_above n name es (and-second (is_below n k) _ h)) f

-- so the first key is the first name
first_same : (b : Bool) (k : List ℕ) (t : Tree) (es : Entries) (a : AttributeView) (others : List AttributeView) → bytes_eq a.name k ≡ b → keys_above k es ≡ true → list_all (λ c. is_below a.name c.name) others ≡ true
    → is_some (cond b (Some a) (find (λ c. bytes_eq c.name k) others)) ≡ true → is_some (cond b (Some t) (get a.name es)) ≡ true → a.name ≡ k
first_same true k t es a others e above up found got = (bytes_eq-Decides a.name k).0 e
first_same false k t es a others e above up found got = absurd (not_itself k (below-trans k a.name k (got_above k a.name es above got) (found_above a.name k others up found)))

-- what is found beside a name that isn't it is found without it
others_found : (a : AttributeView) (others : List AttributeView) (es : Entries) → keys_above a.name es ≡ true → keys_found (a ∷ others) es ≡ true → keys_found others es ≡ true
others_found a others no_entries above found = refl
others_found a others (entry k t es) above found =
    let far : bytes_eq a.name k ≡ false = other_name a.name k (and-first (is_below a.name k) _ above) in
    let here : is_some (find (λ c. bytes_eq c.name k) others) ≡ true =
    subst (λ (b : Bool). is_some (cond b (Some a) (find (λ c. bytes_eq c.name k) others)) ≡ true) far (and-first (is_some (find (λ c. bytes_eq c.name k) (a ∷ others))) _ found) in
    and-both (is_some (find (λ c. bytes_eq c.name k) others)) (keys_found others es) here
    (others_found a others es (and-second (is_below a.name k) _ above) (and-second (is_some (find (λ c. bytes_eq c.name k) (a ∷ others))) _ found))
  where
    by_test : (b : Bool) (n k : List ℕ) → bytes_eq n k ≡ b → is_below n k ≡ true → bytes_eq n k ≡ false
    by_test false n k e h = e
    by_test true n k e h = absurd (not_itself k (subst (λ (x : List ℕ). is_below x k ≡ true) ((bytes_eq-Decides n k).0 e) h))

    other_name : (n k : List ℕ) → is_below n k ≡ true → bytes_eq n k ≡ false
    other_name n k h = by_test (bytes_eq n k) n k refl h

others_there : (k : List ℕ) (t : Tree) (es : Entries) (others : List AttributeView) → list_all (λ c. is_below k c.name) others ≡ true → list_all (λ c. is_some (get c.name (entry k t es))) others ≡ true
    → list_all (λ c. is_some (get c.name es)) others ≡ true
others_there k t es [] up got = refl
others_there k t es (b ∷ others) up got =
    let here : is_some (get b.name es) ≡ true =
    subst (λ (c : Bool). is_some (cond c (Some t) (get b.name es)) ≡ true) (apart k b.name (and-first (is_below k b.name) _ up)) (and-first (is_some (get b.name (entry k t es))) _ got) in
    and-both (is_some (get b.name es)) (list_all (λ c. is_some (get c.name es)) others) here (others_there k t es others (and-second (is_below k b.name) _ up) (and-second (is_some (get b.name (entry k t es))) _ got))

same_keys : (es : Entries) (attributes : List AttributeView) → keys_ascend es ≡ true → ascends attributes ≡ true → keys_found attributes es ≡ true → list_all (λ a. is_some (get a.name es)) attributes ≡ true
    → same_names (keys_of es) (each (λ a. a.name) attributes) ≡ true
same_keys no_entries [] sorted up found got = refl
same_keys no_entries (a ∷ others) sorted up found got = absurd (cc)
same_keys (entry k t es) [] sorted up found got = absurd (cc)
same_keys (entry k t es) (a ∷ others) sorted up found got =
    let above = and-first (keys_above k es) _ sorted in
    let over = and-first (list_all (λ c. is_below a.name c.name) others) _ up in
    let is : a.name ≡ k = first_same (bytes_eq a.name k) k t es a others refl above over (and-first (is_some (find (λ c. bytes_eq c.name k) (a ∷ others))) _ found) (and-first (is_some (get a.name (entry k t es))) _ got) in
    let above_name : keys_above a.name es ≡ true = subst (λ (n : List ℕ). keys_above n es ≡ true) (sym is) above in
    let over_key : list_all (λ c. is_below k c.name) others ≡ true = subst (λ (n : List ℕ). list_all (λ c. is_below n c.name) others ≡ true) is over in
    let rest = same_keys es others (and-second (keys_above k es) _ sorted) (and-second (list_all (λ c. is_below a.name c.name) others) _ up)
    (others_found a others es above_name (and-second (is_some (find (λ c. bytes_eq c.name k) (a ∷ others))) _ found))
    (others_there k t es others over_key (and-second (is_some (get a.name (entry k t es))) _ got)) in
    and-both (bytes_eq k a.name) (same_names (keys_of es) (each (λ c. c.name) others)) ((bytes_eq-Decides k a.name).1 (sym is)) rest

version_is : (b : Bool) (o : Option PriorFaultView) → cond b o (Some as_a_whole) ≡ None → (b ≡ true) × (o ≡ None)
version_is true o h = (refl, h)
version_is false o h = absurd (cc)

pub fits_exactly : FitsExactly
fits_exactly schema version (map es) good sorted h =
    let both = version_is (version == schema.version) (option_map at_attribute (first_name (all_misfits schema es))) h in
    let none = both_empty (misfits schema.attributes es) (strays schema es) (no_name (all_misfits schema es) both.1) in
    let allowed = all_allowed es schema.attributes none.0 in (
      (unsigned_Decides version schema.version).0 both.0,
      same_keys es schema.attributes (ascend_from es sorted.0) good.ascending (all_found schema es none.1) (all_there es schema.attributes allowed),
      allowed,
    )
fits_exactly schema version null good sorted h = absurd (cc)
fits_exactly schema version (boolean b) good sorted h = absurd (cc)
fits_exactly schema version (whole z) good sorted h = absurd (cc)
fits_exactly schema version (text s) good sorted h = absurd (cc)
fits_exactly schema version (list ts) good sorted h = absurd (cc)
fits_exactly schema version (set ss) good sorted h = absurd (cc)
fits_exactly schema version unknown good sorted h = absurd (cc)
