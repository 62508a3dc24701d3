-- Nothing is done beside an object that is as it should be, and only there.
use Rattle.std.proofs.Common.{◌≡◌, ℕ, Bool, true, false, not, cond, List, [], ◌∷◌, Option, Some, None, refl, ap, ◌∙◌}
use Rattle.std.specs.List.{list_all}
use Rattle.std.specs.Option.{option_map_or}
use Rattle.std.specs.Str.{bytes_eq}
use Rattle.tf_provider_protocol.specs.Schema.{AttributeView, SchemaView, IsSchema}
use Rattle.tf_provider_protocol.specs.Verdict.{has_attributes}
use Rattle.tf_value_data.specs.Equality.{same_Decides}
use Rattle.tf_value_data.specs.Known.{known, known_entries}
use Rattle.tf_value_data.specs.Tree.{Tree, null, boolean, whole, text, list, map, set, unknown, Entries, no_entries, entry, get, same}
use Rattle.tf_value_data.proofs.Conjunction.{and-first, and-second, and-both}
use Rattle.tf_plan_decision.specs.Decision.{nothing, replace, update_or_replace, by_differing, beside}
use Rattle.tf_plan_decision.specs.Differing.{differs, differing, forcing}
use Rattle.tf_plan_object.specs.Kept.{kept_object}
use Rattle.tf_plan_decision.specs.Laws.{BesideEqualNothingIsDone, NothingIsDoneBesideEqual}
use Rattle.tf_plan_decision.proofs.Aligned.{passes, none_differs, same_entries_where_none_differs}
use Rattle.tf_plan_object.proofs.Keeping.{updates_named}

forced_no_nothing : (planned kept : Tree) (names forces : List (List ℕ)) → update_or_replace planned kept names forces ≡ nothing → ⊥
forced_no_nothing planned kept names [] e = cc
forced_no_nothing planned kept names (f ∷ fs) e = cc

-- where nothing is done, nothing differs by name
pub none_names : (schema : SchemaView) (planned kept : Tree) (names : List (List ℕ)) → by_differing schema planned kept names ≡ nothing → names ≡ []
none_names schema planned kept [] e = refl
none_names schema planned kept (n ∷ ns) e = absurd (forced_no_nothing planned kept (n ∷ ns) (forcing schema (n ∷ ns)) e)

untainted : (schema : SchemaView) (ignored : List (List ℕ)) (b : Bool) (prior planned : Tree) → cond b (replace planned []) (beside schema ignored prior planned) ≡ nothing
    → (b ≡ false) × (differing prior (kept_object schema ignored prior planned) ≡ [])
untainted schema ignored true prior planned e = absurd (cc)
untainted schema ignored false prior planned e =
    let kept = kept_object schema ignored prior planned in (refl, none_names schema planned kept (differing prior kept) e)

-- what holds of entries with the attributes of a schema holds of objects with them
pub by_entries : (schema : SchemaView) (R : Tree → Tree → Type 0) → ((es fs : Entries) → has_attributes schema (map es) ≡ true → has_attributes schema (map fs) ≡ true → R (map es) (map fs))
    → (t u : Tree) → has_attributes schema t ≡ true → has_attributes schema u ≡ true → R t u
by_entries schema R entries (map es) (map fs) h g = entries es fs h g
by_entries schema R entries (map es) null h g = absurd (cc)
by_entries schema R entries (map es) (boolean b) h g = absurd (cc)
by_entries schema R entries (map es) (whole z) h g = absurd (cc)
by_entries schema R entries (map es) (text s) h g = absurd (cc)
by_entries schema R entries (map es) (list ts) h g = absurd (cc)
by_entries schema R entries (map es) (set ss) h g = absurd (cc)
by_entries schema R entries (map es) unknown h g = absurd (cc)
by_entries schema R entries _ u h g = absurd (cc)

-- objects with the same attributes, in which nothing differs, are the same
same_objects : (schema : SchemaView) (kept prior : Tree) → IsSchema schema → has_attributes schema kept ≡ true → has_attributes schema prior ≡ true → differing prior kept ≡ [] → kept ≡ prior
same_objects schema kept prior good h g =
    by_entries schema (λ t u. differing u t ≡ [] → t ≡ u) (λ es ps h g e. ap map (same_entries_where_none_differs es ps schema.attributes h g good.ascending e)) kept prior h g

pub nothing_beside_equal : NothingIsDoneBesideEqual
nothing_beside_equal schema ignored r planned good h g e =
    let is = untainted schema ignored r.tainted r.attributes planned e in (
      is.0,
      same_objects schema (kept_object schema ignored r.attributes planned) r.attributes good (updates_named schema ignored r.attributes planned h) g is.1,
    )

known_or : (b : Bool) (t : Tree) (rest : Option Tree) → known t ≡ true → option_map_or known rest true ≡ true → option_map_or known (cond b (Some t) rest) true ≡ true
known_or true t rest h g = h
known_or false t rest h g = g

pub known_at : (es : Entries) (name : List ℕ) → known_entries es ≡ true → option_map_or known (get name es) true ≡ true
known_at no_entries name h = refl
known_at (entry k t es) name h = known_or (bytes_eq name k) t (get name es) (and-first (known t) _ h) (known_at es name (and-second (known t) _ h))

-- a value, beside the prior one, differs from it in nothing
abbrev stays : Option Tree → Option Tree → Bool
stays there None = true
stays there (Some t) = not (differs there t)

itself : (o : Option Tree) → option_map_or known o true ≡ true → stays o o ≡ true
itself None h = refl
itself (Some t) h = let same_is : same t t ≡ true = (same_Decides t t).1 refl in rw (same_is, h) refl

each_itself : (es : Entries) (attributes : List AttributeView) → known_entries es ≡ true → list_all (λ a. stays (get a.name es) (get a.name es)) attributes ≡ true
each_itself es [] h = refl
each_itself es (a ∷ others) h = and-both (stays (get a.name es) (get a.name es)) _ (itself (get a.name es) (known_at es a.name h)) (each_itself es others h)

same_no_difference : (schema : SchemaView) (t : Tree) → IsSchema schema → has_attributes schema t ≡ true → known t ≡ true → differing t t ≡ []
same_no_difference schema (map es) good h k =
    none_differs (map es) es (passes (λ name found. stays (get name es) found) es schema.attributes h good.ascending (each_itself es schema.attributes k))
same_no_difference schema _ good h k = refl

pub nothing_where_none_differs : (schema : SchemaView) (ignored : List (List ℕ)) (b : Bool) (prior planned : Tree) → b ≡ false → differing prior (kept_object schema ignored prior planned) ≡ []
    → cond b (replace planned []) (beside schema ignored prior planned) ≡ nothing
nothing_where_none_differs schema ignored b prior planned e none =
    let kept = kept_object schema ignored prior planned in
    ap (λ (c : Bool). cond c (replace planned []) (beside schema ignored prior planned)) e ∙ ap (by_differing schema planned kept) none

pub beside_equal_nothing : BesideEqualNothingIsDone
beside_equal_nothing schema ignored r planned good h k untainted same =
    nothing_where_none_differs schema ignored r.tainted r.attributes planned untainted
    (ap (differing r.attributes) same ∙ same_no_difference schema r.attributes good h k)
