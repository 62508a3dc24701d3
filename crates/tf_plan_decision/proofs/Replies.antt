-- What was asked for and answered well is asked for no more.
use Rattle.std.proofs.Common.{◌≡◌, ◌⊎◌, inl, inr, ℕ, ◌+◌, Bool, true, false, ◌||◌, not, cond, List, [], ◌∷◌, Option, Some, None, refl, sym, ap, ◌∙◌, subst}
use Rattle.std.specs.List.{list_all, position_from}
use Rattle.std.specs.Option.{option_map_or, unwrap_or}
use Rattle.tf_provider_protocol.specs.Schema.{AttributeView, SchemaView, IsSchema}
use Rattle.tf_provider_protocol.specs.Verdict.{contradiction, contradicts, contradicts_at, fits, fits_in, has_attributes, is_allowed, is_good_verdict, well_formed}
use Rattle.tf_provider_protocol.specs.declared.verdict.Verdict.TheVariants.{Good, Contradicted, Malformed}
use Rattle.tf_state_data.specs.Record.{RecordView}
use Rattle.tf_value_data.specs.Equality.{same_Decides}
use Rattle.tf_value_data.specs.Known.{known}
use Rattle.tf_value_data.specs.Refinement.{Refines, refined}
use Rattle.tf_value_data.specs.Stored.{may_be_planned, may_be_stored}
use Rattle.tf_value_data.specs.Tree.{Tree, map, part_at, same, Entries, no_entries, entry}
use Rattle.tf_value_data.proofs.Conjunction.{and-first, and-second, and-both}
use Rattle.tf_value_data.proofs.Order.{Refines-known}
use Rattle.tf_value_data.proofs.Refining.{refined_Decides}
use Rattle.tf_plan_decision.specs.Decision.{replace, update_or_replace, by_differing, beside, change}
use Rattle.tf_plan_decision.specs.Differing.{differs, differing, differing_entries, forcing}
use Rattle.tf_plan_object.specs.Kept.{is_kept, kept_entries, kept_object, kept_value}
use Rattle.tf_plan_decision.specs.Laws.{GoodRepliesStay, asked, is_settled}
use Rattle.tf_plan_decision.proofs.Aligned.{each_entry, passes}
use Rattle.tf_plan_decision.proofs.Equal.{nothing_where_none_differs}
use Rattle.tf_plan_object.proofs.Keeping.{updates_argue}

some_is : (t u : Tree) → Some t ≡ Some u → t ≡ u
some_is t u e = cc

-- what is asked for is what is planned, or that with what is kept
forced_asks : (planned kept t : Tree) (names forces : List (List ℕ)) → asked (update_or_replace planned kept names forces) ≡ Some t → (planned ≡ t) ⊎ (kept ≡ t)
forced_asks planned kept t names [] e = inr (some_is kept t e)
forced_asks planned kept t names (f ∷ fs) e = inl (some_is planned t e)

beside_asks : (schema : SchemaView) (planned kept t : Tree) (names : List (List ℕ)) → asked (by_differing schema planned kept names) ≡ Some t → (planned ≡ t) ⊎ (kept ≡ t)
beside_asks schema planned kept t [] e = absurd (cc)
beside_asks schema planned kept t (n ∷ ns) e = forced_asks planned kept t (n ∷ ns) (forcing schema (n ∷ ns)) e

tainted_asks : (schema : SchemaView) (ignored : List (List ℕ)) (b : Bool) (prior planned t : Tree) → asked (cond b (replace planned []) (beside schema ignored prior planned)) ≡ Some t
    → (planned ≡ t) ⊎ (kept_object schema ignored prior planned ≡ t)
tainted_asks schema ignored true prior planned t e = inl (some_is planned t e)
tainted_asks schema ignored false prior planned t e =
    let kept = kept_object schema ignored prior planned in beside_asks schema planned kept t (differing prior kept) e

-- so it has what is planned, where nothing is kept
asks_planned : (schema : SchemaView) (ignored : List (List ℕ)) (prior : Option RecordView) (planned t : Tree) → asked (change schema ignored prior planned) ≡ Some t
    → (name : List ℕ) → is_kept schema ignored name ≡ false → part_at name t ≡ part_at name planned
asks_planned schema ignored None planned t e name h = ap (part_at name) (sym (some_is planned t e))
asks_planned schema ignored (Some r) planned t e name h =
    elim (tainted_asks schema ignored r.tainted r.attributes planned t e) as (λ w. part_at name t ≡ part_at name planned) [
      | inl is ↦ ap (part_at name) (sym is)
      | inr is ↦ ap (part_at name) (sym is) ∙ updates_argue schema ignored r.attributes planned name h
    ]

-- a good reply is well formed, and contradicts nothing
pub good_is : (w : Bool) (c : Option ℕ) → is_good_verdict (cond (not w) Malformed (option_map_or Contradicted c Good)) ≡ true → (w ≡ true) × (c ≡ None)
good_is true None h = (refl, refl)
good_is true (Some n) h = absurd (cc)
good_is false c h = absurd (cc)

pub no_place : (b : Bool) (i : ℕ) (rest : Option ℕ) → cond b (Some i) rest ≡ None → (b ≡ false) × (rest ≡ None)
no_place true i rest h = absurd (cc)
no_place false i rest h = (refl, h)

pub nowhere : (p : AttributeView → Bool) (i : ℕ) (xs : List AttributeView) → position_from p i xs ≡ None → list_all (λ x. not (p x)) xs ≡ true
nowhere p i [] h = refl
nowhere p i (x ∷ xs) h =
    let both = no_place (p x) i (position_from p (i + 1) xs) h in and-both (not (p x)) (list_all (λ y. not (p y)) xs) (ap not both.0) (nowhere p (i + 1) xs both.1)

-- a value, kept or planned, doesn't differ from the one that is there
abbrev pub stays : Bool → Option Tree → Option Tree → Bool
stays keeps there None = true
stays keeps there (Some t) = not (differs there (cond keeps (unwrap_or there t) t))

pub no_difference : (u : Tree) → known u ≡ true → not (differs (Some u) u) ≡ true
no_difference u h = let is : same u u ≡ true = (same_Decides u u).1 refl in rw (is, h) refl

known_fit : (a : AttributeView) (u : Tree) → fits a u ≡ true → known u ≡ true
known_fit a u h = and-first (known u) (may_be_planned u) (and-first (may_be_stored u) (is_allowed a u) h)

no_contradiction : (t u : Tree) → not (not (refined t u)) ≡ true → Refines t u
no_contradiction t u h = (refined_Decides t u).0 (double (refined t u) h)
  where
    double : (b : Bool) → not (not b) ≡ true → b ≡ true
    double true e = refl
    double false e = absurd (cc)

value_stays : (a : AttributeView) (keeps : Bool) (found there wanted : Option Tree) → option_map_or (fits a) there false ≡ true → not (contradicts wanted there) ≡ true
    → (keeps || option_map_or known found false) ≡ true → (keeps ≡ false → wanted ≡ found) → stays keeps there found ≡ true
value_stays a keeps None there wanted f g k w = refl
value_stays a keeps (Some t) None wanted f g k w = absurd (cc)
value_stays a true (Some t) (Some u) wanted f g k w = no_difference u (known_fit a u f)
value_stays a false (Some t) (Some u) wanted f g k w =
    let refines : not (contradicts (Some t) (Some u)) ≡ true = subst (λ (o : Option Tree). not (contradicts o (Some u)) ≡ true) (w refl) g in
    let is : t ≡ u = Refines-known t u k (no_contradiction t u refines) in
    subst (λ (v : Tree). not (differs (Some u) v) ≡ true) (sym is) (no_difference u (known_fit a u f))

all_stay : (schema : SchemaView) (ignored : List (List ℕ)) (planned wanted there : Tree) (attributes : List AttributeView) → ((name : List ℕ) → is_kept schema ignored name ≡ false → part_at name wanted ≡ part_at name planned)
    → list_all (fits_in there) attributes ≡ true → list_all (λ a. not (contradicts_at wanted there a)) attributes ≡ true → list_all (is_settled schema ignored planned) attributes ≡ true
    → list_all (λ a. stays (is_kept schema ignored a.name) (part_at a.name there) (part_at a.name planned)) attributes ≡ true
all_stay schema ignored planned wanted there [] w f g k = refl
all_stay schema ignored planned wanted there (a ∷ others) w f g k =
    let here = value_stays a (is_kept schema ignored a.name) (part_at a.name planned) (part_at a.name there) (part_at a.name wanted)
    (and-first (fits_in there a) _ f) (and-first (not (contradicts_at wanted there a)) _ g) (and-first (is_settled schema ignored planned a) _ k) (w a.name) in
    let rest = all_stay schema ignored planned wanted there others w
    (and-second (fits_in there a) _ f) (and-second (not (contradicts_at wanted there a)) _ g) (and-second (is_settled schema ignored planned a) _ k) in
    and-both (stays (is_kept schema ignored a.name) (part_at a.name there) (part_at a.name planned)) _ here rest

not_true : (b : Bool) → not b ≡ true → b ≡ false
not_true false h = refl
not_true true h = absurd (cc)

entries_stay : (schema : SchemaView) (ignored : List (List ℕ)) (there : Tree) (es : Entries) → each_entry (λ name t. stays (is_kept schema ignored name) (part_at name there) (Some t)) es ≡ true
    → differing_entries there (kept_entries schema ignored there es) ≡ []
entries_stay schema ignored there no_entries h = refl
entries_stay schema ignored there (entry name t es) h =
    let rest = differing_entries there (kept_entries schema ignored there es) in
    ap (λ (b : Bool). cond b (name ∷ rest) rest) (not_true (differs (part_at name there) (kept_value schema ignored there name t)) (and-first (stays (is_kept schema ignored name) (part_at name there) (Some t)) _ h))
    ∙ entries_stay schema ignored there es (and-second (stays (is_kept schema ignored name) (part_at name there) (Some t)) _ h)

pub object_stays : (schema : SchemaView) (ignored : List (List ℕ)) (planned there : Tree) → IsSchema schema → has_attributes schema planned ≡ true
    → list_all (λ a. stays (is_kept schema ignored a.name) (part_at a.name there) (part_at a.name planned)) schema.attributes ≡ true
    → differing there (kept_object schema ignored there planned) ≡ []
object_stays schema ignored (map es) there good h all =
    entries_stay schema ignored there es (passes (λ name found. stays (is_kept schema ignored name) (part_at name there) found) es schema.attributes h good.ascending all)
object_stays schema ignored _ there good h all = refl

pub replies_stay : GoodRepliesStay
replies_stay schema ignored prior r planned t good h asks verdict known_all untainted =
    let is = good_is (well_formed schema r.attributes) (contradiction schema t r.attributes) verdict in
    let fit = and-second (has_attributes schema r.attributes) (list_all (fits_in r.attributes) schema.attributes) is.0 in
    let agrees = nowhere (contradicts_at t r.attributes) 0 schema.attributes is.1 in
    nothing_where_none_differs schema ignored r.tainted r.attributes planned untainted
    (object_stays schema ignored planned r.attributes good h
    (all_stay schema ignored planned t r.attributes schema.attributes (asks_planned schema ignored prior planned t asks) fit agrees known_all))
