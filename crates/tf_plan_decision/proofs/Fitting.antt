-- What fits a schema by its attributes fits it as a prior object.
use Rattle.std.proofs.Common.{◌≡◌, ℕ, Bool, true, false, cond, List, [], ◌∷◌, ◌++◌, map as each, Option, Some, None, option_map, refl, sym, ap, ap₂, ◌∙◌, subst, eq-eqb}
use Rattle.std.specs.Prelude.{find, is_some}
use Rattle.std.specs.List.{list_all}
use Rattle.std.specs.Option.{option_map_or}
use Rattle.std.specs.Str.{bytes_eq}
use Rattle.std.proofs.lemmas.Slice.Eq.{bytes_eq-Decides}
use Rattle.std.proofs.lemmas.List.{append_assoc}
use Rattle.tf_provider_protocol.specs.Schema.{AttributeView, SchemaView, attribute_named}
use Rattle.tf_provider_protocol.specs.Verdict.{fits, fits_in, has_attributes, is_allowed, same_names}
use Rattle.tf_value_data.specs.Stored.{may_be_stored}
use Rattle.tf_value_data.specs.Tree.{Tree, map, Entries, no_entries, entry, get, keys_of}
use Rattle.tf_value_data.proofs.Conjunction.{and-first, and-second}
use Rattle.tf_plan_decision.specs.Laws.{GoodRepliesFit}
use Rattle.tf_plan_decision.specs.Names.{first_name}
use Rattle.tf_plan_decision.specs.Prior.{as_a_whole, at_attribute, all_misfits, misfits, prior_fault, strays}
use Rattle.tf_plan_decision.proofs.Aligned.{same_name}

allowed_fit : (a : AttributeView) (o : Option Tree) → option_map_or (fits a) o false ≡ true → option_map_or (is_allowed a) o false ≡ true
allowed_fit a None h = h
allowed_fit a (Some t) h = and-second (may_be_stored t) (is_allowed a t) h

no_misfit : (es : Entries) (attributes : List AttributeView) → list_all (fits_in (map es)) attributes ≡ true → misfits attributes es ≡ []
no_misfit es [] h = refl
no_misfit es (a ∷ others) h =
    ap (λ (b : Bool). cond b (misfits others es) (a.name ∷ misfits others es)) (allowed_fit a (get a.name es) (and-first (fits_in (map es) a) _ h))
    ∙ no_misfit es others (and-second (fits_in (map es) a) _ h)

-- an attribute is found by its name, wherever it stands
found_here : (b : Bool) (a : AttributeView) (rest : Option AttributeView) → is_some rest ≡ true → is_some (cond b (Some a) rest) ≡ true
found_here true a rest h = refl
found_here false a rest h = h

found_among : (before : List AttributeView) (a : AttributeView) (after : List AttributeView) → is_some (find (λ b. bytes_eq b.name a.name) (before ++ a ∷ after)) ≡ true
found_among [] a after = ap (λ (b : Bool). is_some (cond b (Some a) (find (λ c. bytes_eq c.name a.name) after))) (same_name a.name)
found_among (b ∷ before) a after = found_here (bytes_eq b.name a.name) b (find (λ c. bytes_eq c.name a.name) (before ++ a ∷ after)) (found_among before a after)

-- entries whose keys are names of attributes have no others
no_stray : (schema : SchemaView) (es : Entries) (before after : List AttributeView) → schema.attributes ≡ before ++ after → same_names (keys_of es) (each (λ a. a.name) after) ≡ true → strays schema es ≡ []
no_stray schema no_entries before after all h = refl
no_stray schema (entry k t es) before [] all h = absurd (cc)
no_stray schema (entry k t es) before (a ∷ after) all h =
    let is : a.name ≡ k = sym ((bytes_eq-Decides k a.name).0 (and-first (bytes_eq k a.name) _ h)) in
    let found : is_some (attribute_named a.name schema) ≡ true = ap (λ (xs : List AttributeView). is_some (find (λ b. bytes_eq b.name a.name) xs)) all ∙ found_among before a after in
    let here : is_some (attribute_named k schema) ≡ true = subst (λ (n : List ℕ). is_some (attribute_named n schema) ≡ true) is found in
    ap (λ (b : Bool). cond b (strays schema es) (k ∷ strays schema es)) here
    ∙ no_stray schema es (before ++ a ∷ []) after (all ∙ sym (append_assoc before (a ∷ []) after)) (and-second (bytes_eq k a.name) _ h)

fits_as_is : (schema : SchemaView) (es : Entries) → all_misfits schema es ≡ [] → prior_fault schema schema.version (map es) ≡ None
fits_as_is schema es none =
    ap (λ (b : Bool). cond b (option_map at_attribute (first_name (all_misfits schema es))) (Some as_a_whole)) (eq-eqb schema.version schema.version refl)
    ∙ ap (λ names. option_map at_attribute (first_name names)) none

pub good_fit : GoodRepliesFit
good_fit schema (map es) h =
    let names = and-first (has_attributes schema (map es)) (list_all (fits_in (map es)) schema.attributes) h in
    let values = and-second (has_attributes schema (map es)) (list_all (fits_in (map es)) schema.attributes) h in
    fits_as_is schema es (ap₂ (λ xs ys. xs ++ ys) (no_misfit es schema.attributes values) (no_stray schema es [] schema.attributes refl names))
good_fit schema _ h = absurd (cc)
