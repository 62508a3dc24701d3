-- An object is well formed where each attribute may be stored, it has those of the schema, and the value of each is allowed.
use Rattle.std.proofs.Common.{◌≡◌, ℕ, Bool, true, false, List, [], ◌∷◌, ◌&&◌, map as each, refl, sym, ap, ap₂, ◌∙◌, Ordering, Less, Equal, Greater}
use Rattle.std.specs.Prelude.{Option, Some, None, IfSome, if◌then◌else◌}
use Rattle.std.specs.List.{list_all}
use Rattle.std.specs.Option.{option_map_or}
use Rattle.std.specs.Ordering.{nat_cmp, is_lt, is_eq, ordering_reverse}
use Rattle.std.specs.Cmp.Lexicographic.{slice_cmp, nat_list_cmp_total}
use Rattle.std.specs.Str.{bytes_eq}
use Rattle.std.proofs.lemmas.Map.Text.{is_eq-slice_cmp}
use Rattle.std.proofs.lemmas.Slice.Eq.{bytes_eq-Decides}
use Rattle.tf_provider_protocol.specs.Schema.{AttributeView, SchemaView, IsSchema, ascends, is_below}
use Rattle.tf_value_data.specs.Tree.{keys_of, Tree, map, Entries, no_entries, entry, get}
use Rattle.tf_provider_protocol.specs.Verdict.{same_names, has_attributes, is_allowed, fits, fits_in, well_formed}
use Rattle.tf_value_data.proofs.Conjunction.{and-first, and-second, and-both}
use Rattle.tf_value_data.specs.Known.{known, known_entries}
use Rattle.tf_state.specs.Valid.{IsAttributes}
use Rattle.tf_value_data.specs.Stored.{EachMayBeStored, may_be_stored, each_may_be_stored}
use Rattle.tf_walk_report.specs.Formed.{allowed_in}
use Rattle.tf_walk_action.specs.Storable.{has_stored_attributes}

fits-stored : (a : AttributeView) (t : Tree) → fits a t ≡ true → may_be_stored t ≡ true
fits-stored a t h = and-first (may_be_stored t) (is_allowed a t) h

greater : (o : Ordering) → is_lt (ordering_reverse o) ≡ true → is_eq o ≡ false
greater Less h = cc
greater Equal h = cc
greater Greater h = refl

-- a name that another is below is another one
different : (a b : List ℕ) → is_below a b ≡ true → bytes_eq b a ≡ false
different a b h = sym (is_eq-slice_cmp b a) ∙ greater (slice_cmp nat_cmp b a) (sym (ap is_lt (nat_list_cmp_total.antisymm a b)) ∙ h)

past : (x : Bool) (a : AttributeView) (t : Tree) (o : Option Tree) → x ≡ false → option_map_or (fits a) (if x then Some t else o) false ≡ true → option_map_or (fits a) o false ≡ true
past false a t o e h = h
past true a t o e h = absurd (cc)

here : (x : Bool) (a : AttributeView) (t : Tree) (o : Option Tree) → x ≡ true → option_map_or (fits a) (if x then Some t else o) false ≡ true → fits a t ≡ true
here true a t o e h = h
here false a t o e h = absurd (cc)

-- attributes beyond the first key find their values behind it
beyond : (k : List ℕ) (t : Tree) (es : Entries) (xs : List AttributeView) → list_all (λ b. is_below k b.name) xs ≡ true → list_all (fits_in (map (entry k t es))) xs ≡ true → list_all (fits_in (map es)) xs ≡ true
beyond k t es [] h f = refl
beyond k t es (b ∷ bs) h f =
    and-both _ _ (past (bytes_eq b.name k) b t (get b.name es) (different k b.name (and-first _ _ h)) (and-first _ _ f))
    (beyond k t es bs (and-second _ _ h) (and-second _ _ f))

entries-stored : (es : Entries) (xs : List AttributeView) → same_names (keys_of es) (each (λ a. a.name) xs) ≡ true → ascends xs ≡ true → list_all (fits_in (map es)) xs ≡ true → each_may_be_stored es ≡ true
entries-stored no_entries xs s a f = refl
entries-stored (entry k t es) [] s a f = absurd (cc)
entries-stored (entry k t es) (b ∷ bs) s a f =
    let same : k ≡ b.name = (bytes_eq-Decides k b.name).0 (and-first _ _ s) in
    let mine : fits b t ≡ true = here (bytes_eq b.name k) b t (get b.name es) ((bytes_eq-Decides b.name k).1 (sym same)) (and-first _ _ f) in
    let above : list_all (λ c. is_below k c.name) bs ≡ true = ap (λ n. list_all (λ c. is_below n c.name) bs) same ∙ and-first _ _ a in
    and-both _ _ (fits-stored b t mine) (entries-stored es bs (and-second _ _ s) (and-second _ _ a) (beyond k t es bs above (and-second _ _ f)))

well_formed-stored : (s : SchemaView) (t : Tree) → IsSchema s → well_formed s t ≡ true → has_stored_attributes t ≡ true
well_formed-stored s (map es) k h = entries-stored es s.attributes (and-first _ _ h) k.ascending (and-second _ _ h)
well_formed-stored s _ k h = absurd (cc)

-- ---- part by part

one_of : (b : Bool) (t : Tree) (o : Option Tree) → may_be_stored t ≡ true → IfSome o (λ u. may_be_stored u ≡ true) → IfSome (if b then Some t else o) (λ u. may_be_stored u ≡ true)
one_of true t o h more = h
one_of false t o h more = more

-- what stands at a key may be stored
get-stored : (es : Entries) (k : List ℕ) → each_may_be_stored es ≡ true → IfSome (get k es) (λ t. may_be_stored t ≡ true)
get-stored no_entries k h = tt
get-stored (entry l t es) k h = one_of (bytes_eq k l) t (get k es) (and-first _ _ h) (get-stored es k (and-second _ _ h))

fits-allowed : (a : AttributeView) (o : Option Tree) → IfSome o (λ t. may_be_stored t ≡ true) → option_map_or (fits a) o false ≡ option_map_or (is_allowed a) o false
fits-allowed a None h = refl
fits-allowed a (Some t) h = ap (λ b. b && is_allowed a t) h

all_fit-allowed : (es : Entries) → each_may_be_stored es ≡ true → (xs : List AttributeView) → list_all (fits_in (map es)) xs ≡ list_all (allowed_in (map es)) xs
all_fit-allowed es h [] = refl
all_fit-allowed es h (a ∷ xs) = ap₂ (λ b c. b && c) (fits-allowed a (get a.name es) (get-stored es a.name h)) (all_fit-allowed es h xs)

-- an object whose attributes may be stored is well formed where it has the schema's, and each is allowed
pub stored-formed : (s : SchemaView) (t : Tree) → has_stored_attributes t ≡ true → well_formed s t ≡ (has_attributes s t && list_all (allowed_in t) s.attributes)
stored-formed s (map es) h = ap (λ b. has_attributes s (map es) && b) (all_fit-allowed es h s.attributes)
stored-formed s _ h = absurd (cc)

unless : (b c : Bool) → (b ≡ true → c ≡ true) → c ≡ false → b ≡ false
unless true c p e = sym (p refl) ∙ e
unless false c p e = refl

-- another one isn't well formed
pub not_stored-formed : (s : SchemaView) (t : Tree) → IsSchema s → has_stored_attributes t ≡ false → well_formed s t ≡ false
not_stored-formed s t k e = unless (well_formed s t) (has_stored_attributes t) (well_formed-stored s t k) e

-- ---- what may be stored is known

each-known : (es : Entries) → EachMayBeStored es → known_entries es ≡ true
each-known no_entries h = refl
each-known (entry k t es) h = and-both _ _ h.0.2 (each-known es h.1)

pub attributes-known : (t : Tree) → IsAttributes t → known t ≡ true
attributes-known (map es) h = each-known es h.1
attributes-known _ h = absurd h
