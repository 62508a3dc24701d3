-- Beside what was answered well, and beside what nothing was planned for, nothing is done.
use Rattle.std.proofs.Common.{◌≡◌, ◌∙◌, ℕ, Bool, true, false, cond, Option, Some, None, List, [], ◌∷◌, Result, Ok, refl, sym, ap, ap₂, subst, ◌||◌}
use Rattle.std.specs.Prelude.{is_some}
use Rattle.std.specs.List.{AllByRecursion, list_all}
use Rattle.std.specs.Option.{option_map_or, unwrap_or}
use Rattle.std.specs.Str.{bytes_eq}
use Rattle.std.proofs.lemmas.Slice.Eq.{bytes_eq-Decides}
use Rattle.tf_plan_data.specs.Action.{ActionView, StepView, create, update, replacement, replaced, destroyed, deposed_destroyed}
use Rattle.tf_plan_object.specs.Instance.{InstanceFaultView}
use Rattle.tf_plan_decision.proofs.Aligned.{same_name}
use Rattle.tf_plan_decision.proofs.Equal.{beside_equal_nothing, none_names, nothing_beside_equal, nothing_where_none_differs}
use Rattle.tf_plan_object.proofs.KeptGrowing.{updates_grow}
use Rattle.tf_plan_object.proofs.Keeping.{updates_argue, updates_named}
use Rattle.tf_plan_decision.proofs.Replies.{good_is, replies_stay}
use Rattle.tf_plan_decision.specs.Decision.{beside, change, nothing, replace}
use Rattle.tf_plan_decision.specs.Differing.{differing}
use Rattle.tf_plan_object.specs.Kept.{is_kept, kept_entries, kept_object}
use Rattle.tf_plan_decision.specs.Laws.{is_settled}
use Rattle.tf_walk_action.specs.Asked.{asked_by_step, create_of, update_of}
use Rattle.tf_plan_data.specs.Fits.{is_apply}
use Rattle.tf_provider_protocol.specs.Meaning.{Asked}
use Rattle.tf_provider_protocol.specs.Schema.{AttributeView, SchemaView, IsSchema}
use Rattle.tf_provider_protocol.specs.Verdict.{contradiction, fits_in, has_attributes, is_good_verdict, names_of, same_names, verdict_on_object, well_formed}
use Rattle.tf_state_data.specs.Record.{RecordView}
use Rattle.tf_value_data.proofs.Conjunction.{and-first, and-second, and-both}
use Rattle.tf_value_data.proofs.Order.{Refines-known}
use Rattle.tf_value_data.specs.Known.{known}
use Rattle.tf_value_data.specs.Refinement.{Refines}
use Rattle.tf_value_data.specs.Tree.{Tree, null, boolean, whole, text, list, map, set, unknown, Entries, no_entries, entry, get, keys_of, part_at}
use Rattle.tf_laws.specs.InstancesAtRest.{AnsweredInstancesRest, UntouchedInstancesRest}

-- ---- what is kept of two objects, one after the other, is kept of the first

names_one : (ks ls ns : List (List ℕ)) → same_names ks ns ≡ true → same_names ls ns ≡ true → ks ≡ ls
names_one [] [] ns h g = refl
names_one [] (l ∷ ls) [] h g = absurd (cc)
names_one [] (l ∷ ls) (n ∷ ns) h g = absurd (cc)
names_one (k ∷ ks) ls [] h g = absurd (cc)
names_one (k ∷ ks) [] (n ∷ ns) h g = absurd (cc)
names_one (k ∷ ks) (l ∷ ls) (n ∷ ns) h g =
    let first : k ≡ l = (bytes_eq-Decides k n).0 (and-first (bytes_eq k n) _ h) ∙ sym ((bytes_eq-Decides l n).0 (and-first (bytes_eq l n) _ g)) in
    ap₂ (λ x xs. x ∷ xs) first (names_one ks ls ns (and-second (bytes_eq k n) _ h) (and-second (bytes_eq l n) _ g))

some_later : (b : Bool) (t : Tree) (o : Option Tree) → is_some o ≡ true → is_some (cond b (Some t) o) ≡ true
some_later true t o h = refl
some_later false t o h = h

all_later : (k : List ℕ) (t : Tree) (es : Entries) (ks : List (List ℕ)) → AllByRecursion (λ j. is_some (get j es) ≡ true) ks → AllByRecursion (λ j. is_some (get j (entry k t es)) ≡ true) ks
all_later k t es [] h = tt
all_later k t es (j ∷ ks) h = (some_later (bytes_eq j k) t (get j es) h.0, all_later k t es ks h.1)

-- under each key something stands
keys_there : (es : Entries) → AllByRecursion (λ k. is_some (get k es) ≡ true) (keys_of es)
keys_there no_entries = tt
keys_there (entry k t es) = (
  ap (λ (b : Bool). is_some (cond b (Some t) (get k es))) (same_name k),
  all_later k t es (keys_of es) (keys_there es),
)

value_twice : (keeps : Bool) (there before : Option Tree) (t : Tree) → is_some there ≡ true → cond keeps (unwrap_or there (cond keeps (unwrap_or before t) t)) (cond keeps (unwrap_or before t) t) ≡ cond keeps (unwrap_or there t) t
value_twice true (Some v) before t h = refl
value_twice true None before t h = absurd (cc)
value_twice false there before t h = refl

entries_twice : (schema : SchemaView) (ignored : List (List ℕ)) (there prior : Tree) (es : Entries) → AllByRecursion (λ k. is_some (part_at k there) ≡ true) (keys_of es)
    → kept_entries schema ignored there (kept_entries schema ignored prior es) ≡ kept_entries schema ignored there es
entries_twice schema ignored there prior no_entries h = refl
entries_twice schema ignored there prior (entry k t es) h =
    ap₂ (λ v rest. entry k v rest) (value_twice (is_kept schema ignored k) (part_at k there) (part_at k prior) t h.0) (entries_twice schema ignored there prior es h.1)

pub object_twice : (schema : SchemaView) (ignored : List (List ℕ)) (there prior made : Tree) → has_attributes schema made ≡ true → has_attributes schema there ≡ true
    → kept_object schema ignored there (kept_object schema ignored prior made) ≡ kept_object schema ignored there made
object_twice schema ignored (map fs) prior (map es) h g =
    ap map (entries_twice schema ignored (map fs) prior es (subst (λ (ks : List (List ℕ)). AllByRecursion (λ k. is_some (get k fs) ≡ true) ks) (names_one (keys_of fs) (keys_of es) (names_of schema) g h) (keys_there fs)))
object_twice schema ignored null prior (map es) h g = absurd (cc)
object_twice schema ignored (boolean b) prior (map es) h g = absurd (cc)
object_twice schema ignored (whole z) prior (map es) h g = absurd (cc)
object_twice schema ignored (text s) prior (map es) h g = absurd (cc)
object_twice schema ignored (list ts) prior (map es) h g = absurd (cc)
object_twice schema ignored (set ss) prior (map es) h g = absurd (cc)
object_twice schema ignored unknown prior (map es) h g = absurd (cc)
object_twice schema ignored there prior _ h g = refl

-- ---- an object with what is kept is as known as the object

kept_known : (b : Bool) (o p : Option Tree) → (b || option_map_or known o false) ≡ true → (b ≡ false → p ≡ o) → (b || option_map_or known p false) ≡ true
kept_known true o p h same = refl
kept_known false o p h same = ap (λ (x : Option Tree). option_map_or known x false) (same refl) ∙ h

kept_settled : (schema : SchemaView) (ignored : List (List ℕ)) (prior made : Tree) (attributes : List AttributeView) → list_all (is_settled schema ignored made) attributes ≡ true
    → list_all (is_settled schema ignored (kept_object schema ignored prior made)) attributes ≡ true
kept_settled schema ignored prior made [] h = refl
kept_settled schema ignored prior made (a ∷ others) h =
    and-both (is_settled schema ignored (kept_object schema ignored prior made) a) _
    (kept_known (is_kept schema ignored a.name) (part_at a.name made) (part_at a.name (kept_object schema ignored prior made)) (and-first (is_settled schema ignored made a) _ h) (updates_argue schema ignored prior made a.name))
    (kept_settled schema ignored prior made others (and-second (is_settled schema ignored made a) _ h))

-- ---- where nothing is done, nothing differs

differs_in_nothing : (schema : SchemaView) (ignored : List (List ℕ)) (b : Bool) (there planned : Tree) → cond b (replace planned []) (beside schema ignored there planned) ≡ nothing → differing there (kept_object schema ignored there planned) ≡ []
differs_in_nothing schema ignored true there planned e = absurd (cc)
differs_in_nothing schema ignored false there planned e =
    let kept = kept_object schema ignored there planned in none_names schema planned kept (differing there kept) e

-- ---- what was answered well

module _ (schema : SchemaView) (ignored : List (List ℕ)) (r : RecordView) (good : IsSchema schema) (untainted : r.tainted ≡ false) where
  created : (made : Tree) → has_attributes schema made ≡ true → list_all (is_settled schema ignored made) schema.attributes ≡ true
      → is_good_verdict (verdict_on_object schema (Some made) r.attributes) ≡ true → change schema ignored (Some r) made ≡ nothing
  created made named settled well = replies_stay schema ignored None r made made good named refl well settled untainted

  updated : (prior made : Tree) → has_attributes schema made ≡ true → list_all (is_settled schema ignored made) schema.attributes ≡ true
      → is_good_verdict (verdict_on_object schema (Some (kept_object schema ignored prior made)) r.attributes) ≡ true → change schema ignored (Some r) made ≡ nothing
  updated prior made named settled well =
      let wanted = kept_object schema ignored prior made in
      let formed = good_is (well_formed schema r.attributes) (contradiction schema wanted r.attributes) well in
      let there = and-first (has_attributes schema r.attributes) (list_all (fits_in r.attributes) schema.attributes) formed.0 in
      let none = created wanted (updates_named schema ignored prior made named) (kept_settled schema ignored prior made schema.attributes settled) well in
      nothing_where_none_differs schema ignored r.tainted r.attributes made untainted
      (ap (differing r.attributes) (sym (object_twice schema ignored r.attributes prior made named there)) ∙ differs_in_nothing schema ignored r.tainted r.attributes wanted none)

  asks : (made t : Tree) (x asked : Asked) → x.object ≡ Some t → ◌≡◌ {A = Result Asked InstanceFaultView} (Ok x) (Ok asked)
      → is_good_verdict (verdict_on_object schema asked.object r.attributes) ≡ true → is_good_verdict (verdict_on_object schema (Some t) r.attributes) ≡ true
  asks made t x asked object e well =
      let same : x ≡ asked = (cc) in
      subst (λ (o : Option Tree). is_good_verdict (verdict_on_object schema o r.attributes) ≡ true) (sym (ap (λ (y : Asked). y.object) same) ∙ object) well

  step_rests : (a : ActionView) (step : StepView) (made : Tree) (asked : Asked) → has_attributes schema made ≡ true → list_all (is_settled schema ignored made) schema.attributes ≡ true
      → is_apply step ≡ true → asked_by_step ignored schema a (Ok made) step ≡ Ok asked → is_good_verdict (verdict_on_object schema asked.object r.attributes) ≡ true
      → change schema ignored (Some r) made ≡ nothing
  step_rests a (create t) made asked named settled applies e well = created made named settled (asks made made (create_of a made) asked refl e well)
  step_rests a (update prior t names) made asked named settled applies e well =
      updated prior made named settled (asks made (kept_object schema ignored prior made) (update_of a prior (kept_object schema ignored prior made)) asked refl e well)
  step_rests a (replacement t names) made asked named settled applies e well = created made named settled (asks made made (create_of a made) asked refl e well)
  step_rests a (replaced prior) made asked named settled applies e well = absurd (cc)
  step_rests a (destroyed prior) made asked named settled applies e well = absurd (cc)
  step_rests a (deposed_destroyed key prior) made asked named settled applies e well = absurd (cc)

pub answered_rest : AnsweredInstancesRest
answered_rest schema ignored a step made asked r good named settled applies e well untainted = step_rests schema ignored r good untainted a step made asked named settled applies e well

-- ---- what nothing was planned for

pub untouched_rest : UntouchedInstancesRest
untouched_rest schema ignored r later planned made good named there is_known nothing_done grows same as_tainted =
    let before = nothing_beside_equal schema ignored r planned good named there nothing_done in
    let refines : Refines (kept_object schema ignored r.attributes planned) (kept_object schema ignored r.attributes made) = updates_grow schema ignored r.attributes planned made grows in
    let own : Refines r.attributes (kept_object schema ignored r.attributes made) = subst (λ (t : Tree). Refines t (kept_object schema ignored r.attributes made)) before.1 refines in
    let still : kept_object schema ignored r.attributes made ≡ r.attributes = sym (Refines-known r.attributes (kept_object schema ignored r.attributes made) is_known own) in
    beside_equal_nothing schema ignored later made good
    (ap (has_attributes schema) same ∙ there) (ap known same ∙ is_known) (as_tainted ∙ before.0)
    (ap (λ (t : Tree). kept_object schema ignored t made) same ∙ still ∙ sym same)
