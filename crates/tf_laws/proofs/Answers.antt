-- A good reply has what was asked for.
use Rattle.std.proofs.Common.{◌≡◌, ◌∙◌, ◌&&◌, ℕ, Bool, true, false, not, cond, List, [], ◌∷◌, map as each, Option, Some, refl, sym, ap, ap₂, subst}
use Rattle.std.specs.List.{list_all}
use Rattle.std.specs.Str.{bytes_eq}
use Rattle.std.proofs.lemmas.Slice.Eq.{bytes_eq-Decides}
use Rattle.tf_plan_decision.proofs.Aligned.{apart}
use Rattle.tf_plan_decision.proofs.Replies.{good_is, nowhere}
use Rattle.tf_provider_protocol.specs.Schema.{AttributeView, SchemaView, IsSchema, ascends, is_below}
use Rattle.tf_provider_protocol.specs.Verdict.{contradiction, contradicts, contradicts_at, fits_in, has_attributes, is_good_verdict, same_names, verdict_on_object, well_formed}
use Rattle.tf_value_data.proofs.Conjunction.{and-first, and-second}
use Rattle.tf_value_data.proofs.Refining.{refined_Decides}
use Rattle.tf_value_data.specs.Refinement.{Refines, RefinesEntries, refined}
use Rattle.tf_value_data.specs.Tree.{Tree, map, Entries, no_entries, entry, get, keys_of}

double : (b : Bool) → not (not b) ≡ true → b ≡ true
double true e = refl
double false e = absurd (cc)

later : (k : List ℕ) (t u : Tree) (es fs : Entries) (others : List AttributeView) → list_all (λ b. is_below k b.name) others ≡ true
    → list_all (λ b. not (contradicts (get b.name (entry k t es)) (get b.name (entry k u fs)))) others ≡ list_all (λ b. not (contradicts (get b.name es) (get b.name fs))) others
later k t u es fs [] h = refl
later k t u es fs (b ∷ others) h =
    let other = apart k b.name (and-first (is_below k b.name) _ h) in
    ap₂ (λ x y. x && y)
    (ap (λ (c : Bool). not (contradicts (cond c (Some t) (get b.name es)) (cond c (Some u) (get b.name fs)))) other)
    (later k t u es fs others (and-second (is_below k b.name) _ h))

entries_refine : (es fs : Entries) (attributes : List AttributeView) → same_names (keys_of es) (each (λ a. a.name) attributes) ≡ true → same_names (keys_of fs) (each (λ a. a.name) attributes) ≡ true
    → ascends attributes ≡ true → list_all (λ a. not (contradicts (get a.name es) (get a.name fs))) attributes ≡ true → RefinesEntries es fs
entries_refine no_entries no_entries attributes h g up all = tt
entries_refine no_entries (entry l u fs) [] h g up all = absurd (cc)
entries_refine no_entries (entry l u fs) (a ∷ others) h g up all = absurd (cc)
entries_refine (entry k t es) fs [] h g up all = absurd (cc)
entries_refine (entry k t es) no_entries (a ∷ others) h g up all = absurd (cc)
entries_refine (entry k t es) (entry l u fs) (a ∷ others) h g up all =
    let is : k ≡ a.name = (bytes_eq-Decides k a.name).0 (and-first (bytes_eq k a.name) _ h) in
    let too : l ≡ a.name = (bytes_eq-Decides l a.name).0 (and-first (bytes_eq l a.name) _ g) in
    let one : k ≡ l = is ∙ sym too in
    let turned : list_all (λ b. not (contradicts (get b.name (entry k t es)) (get b.name (entry k u fs)))) (a ∷ others) ≡ true =
    subst (λ (n : List ℕ). list_all (λ b. not (contradicts (get b.name (entry k t es)) (get b.name (entry n u fs)))) (a ∷ others) ≡ true) (sym one) all in
    let found : bytes_eq a.name k ≡ true = (bytes_eq-Decides a.name k).1 (sym is) in
    let here : not (contradicts (get a.name (entry k t es)) (get a.name (entry k u fs))) ≡ true = and-first (not (contradicts (get a.name (entry k t es)) (get a.name (entry k u fs)))) _ turned in
    let values : not (not (refined t u)) ≡ true = subst (λ (b : Bool). not (contradicts (cond b (Some t) (get a.name es)) (cond b (Some u) (get a.name fs))) ≡ true) found here in
    let below : list_all (λ b. is_below k b.name) others ≡ true = subst (λ (n : List ℕ). list_all (λ b. is_below n b.name) others ≡ true) (sym is) (and-first (list_all (λ b. is_below a.name b.name) others) _ up) in
    let rest = sym (later k t u es fs others below) ∙ and-second (not (contradicts (get a.name (entry k t es)) (get a.name (entry k u fs)))) _ turned in (
      one,
      (refined_Decides t u).0 (double (refined t u) values),
      entries_refine es fs others (and-second (bytes_eq k a.name) _ h) (and-second (bytes_eq l a.name) _ g) (and-second (list_all (λ b. is_below a.name b.name) others) _ up) rest,
    )

objects_refine : (schema : SchemaView) (t u : Tree) → IsSchema schema → has_attributes schema t ≡ true → has_attributes schema u ≡ true → list_all (λ a. not (contradicts_at t u a)) schema.attributes ≡ true → Refines t u
objects_refine schema (map es) (map fs) good h g all = entries_refine es fs schema.attributes h g good.ascending all
objects_refine schema _ _ good h g all = absurd (cc)

-- a good reply is well formed
pub good_formed : (schema : SchemaView) (o : Option Tree) (u : Tree) → is_good_verdict (verdict_on_object schema o u) ≡ true → well_formed schema u ≡ true
good_formed schema o u h = (good_is (well_formed schema u) _ h).0

-- and what was asked for refines to it
pub good_refines : (schema : SchemaView) (t u : Tree) → IsSchema schema → has_attributes schema t ≡ true → is_good_verdict (verdict_on_object schema (Some t) u) ≡ true → Refines t u
good_refines schema t u good named h =
    let is = good_is (well_formed schema u) (contradiction schema t u) h in
    objects_refine schema t u good named (and-first (has_attributes schema u) (list_all (fits_in u) schema.attributes) is.0) (nowhere (contradicts_at t u) 0 schema.attributes is.1)
